-- Demand 3 with explicit nodes, so that no reader need trust the recursion of Selection or that of Standing.
--
--   SelectedBy q es fs n     in the finished document of es ++ fs the main-path steps can be given nodes, the last being n
--   SelectedByAll q es n     every continuation of the stream es to a finished document selects node n
--   SelectedBySome, SelectedByNone, MissedBySome    some does; none does; some does not
--   Undecided q es n         n is opened, some continuation selects it and some does not
--   ListedBy q es n          n is opened, every continuation selects it, and no undecided node stands before it
--   HeldBy q es n            n is opened, some continuation selects it, and it or an earlier node is undecided
--
-- Assumes nothing. What is shown of them is in proofs/Explicit/Demands.
use Rattle.std.specs.Prelude.{ℕ, ◌≤◌, ◌<◌}
use mathlib.Core.List.{List, ◌++◌}
use Rattle.meaning.specs.Query.{Query}
use Rattle.meaning.specs.Selection.{sure-reading}
use Rattle.meaning.specs.Stream.{Event, document, Finishes}
use Rattle.meaning.specs.Continuation.{Opened}
use Rattle.meaning.specs.Explicit.{Selected}

abbrev pub SelectedBy : Query → List Event → List Event → ℕ → Type 0
SelectedBy q es fs n = Selected q sure-reading (document (es ++ fs)) n

abbrev pub SelectedByAll : Query → List Event → ℕ → Type 0
SelectedByAll q es n = (fs : List Event) → Finishes es fs → SelectedBy q es fs n

abbrev pub SelectedBySome : Query → List Event → ℕ → Type 0
SelectedBySome q es n = (fs : List Event) × Finishes es fs × SelectedBy q es fs n

abbrev pub SelectedByNone : Query → List Event → ℕ → Type 0
SelectedByNone q es n = (fs : List Event) → Finishes es fs → SelectedBy q es fs n → ⊥

abbrev pub MissedBySome : Query → List Event → ℕ → Type 0
MissedBySome q es n = (fs : List Event) × Finishes es fs × (SelectedBy q es fs n → ⊥)

pub record Undecided (q : Query) (es : List Event) (n : ℕ) : Type 0 where
  pub opened : Opened (document es) n
  pub some : SelectedBySome q es n
  pub missed : MissedBySome q es n

pub record ListedBy (q : Query) (es : List Event) (n : ℕ) : Type 0 where
  pub opened : Opened (document es) n
  pub all : SelectedByAll q es n
  pub clear : (m : ℕ) → Undecided q es m → n < m

-- `cause` is the undecided node for which n is held: it or an earlier one
pub record HeldBy (q : Query) (es : List Event) (n : ℕ) : Type 0 where
  pub opened : Opened (document es) n
  pub some : SelectedBySome q es n
  pub cause : ℕ
  pub before : cause ≤ n
  pub undecided_cause : Undecided q es cause
