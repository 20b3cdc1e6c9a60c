-- What the refusals mean, in the words of docs/XML.md.
--
--   Begins L t            some document within the limits L begins with t
--   RefusedAt L r t b     the reader goes through t and refuses the byte b behind it, with the number r
--   Spent L t             t ends in an attribute's name that spells an earlier one of its tag and may not be longer
--   Fails rs w b          w goes on as one of rs, and w with b behind it does not
--
-- Assumes nothing. NOT here: which refusal is given when (Table), what is proved of them (crate reading).
use Rattle.std.specs.Prelude.{ℕ, suc, ◌≡◌, List, [], ◌∷◌, ◌++◌, T, length}
use Rattle.xml.specs.Class.{Rows, OneOf}
use Rattle.xml.specs.Grammar.{Limits, Ev, among, Document}
use Rattle.xml.specs.Machine.{Place, State, stopped, run}
use Rattle.xml.specs.Unfinished.{InAtt}

pub record Begins (L : Limits) (t : List ℕ) : Type 0 where
  pub rest : List ℕ
  pub evs : List Ev
  pub whole : Document L (t ++ rest) evs

pub record RefusedAt (L : Limits) (r : ℕ) (t : List ℕ) (b : ℕ) : Type 0 where
  pub evs : List Ev
  pub refuses : run L (t ++ (b ∷ [])) State.start ≡ stopped evs r (b ∷ [])

pub data Spent (L : Limits) : List ℕ → Type 0 where
  spent :
      {p : Place} {n m t : List ℕ} {ms : List (List ℕ)} {es : List Ev}
      → InAtt L p n ms m t es
      → T (among m ms)
      → (T (L.name (suc (length m))) → ⊥)
      → Spent L t

pub record Fails (rs : Rows) (w : List ℕ) (b : ℕ) : Type 0 where
  pub begins : (c : ℕ) × (v : List ℕ) × OneOf rs (w ++ (c ∷ v))
  pub stuck : (v : List ℕ) → OneOf rs (w ++ (b ∷ v)) → ⊥
