-- The first place of a word among some lines.
--
--   first_from n ls w     its first place, where the first of ls is place n, or 65,534
--   first_place ls w      THE FIRST PLACE of w, from 1, or 65,534
--   StandsAt ls w p      w stands at place p, and at none before
--   Unlisted ls w        w stands nowhere
--
-- Assumes nothing. What is shown of them is in proofs/First.
use Rattle.std.specs.Prelude.{ℕ, suc, ◌<◌, ◌≡◌, List, [], ◌∷◌, length}
use Rattle.choice.specs.When.{when}
use Rattle.xml.specs.Bounds.{unknown_name}
use Rattle.xml.specs.Grammar.{same_name}
use Rattle.listed.specs.Lines.{line_at}

unfoldable pub first_from : ℕ → List (List ℕ) → List ℕ → ℕ
first_from n [] w = unknown_name
first_from n (l ∷ ls) w = when (same_name l w) n (first_from (suc n) ls w)

-- "A name's number is its first place in the list of names, counted from 1, and 65,534 for a name that the list has not."
unfoldable pub first_place : List (List ℕ) → List ℕ → ℕ
first_place ls w = first_from 1 ls w

pub record StandsAt (ls : List (List ℕ)) (w : List ℕ) (p : ℕ) : Type 0 where
  pub before : ℕ
  pub number : p ≡ suc before
  pub there : before < length ls
  pub here : line_at ls before ≡ w
  pub earlier : (k : ℕ) → k < before → line_at ls k ≡ w → ⊥

pub record Unlisted (ls : List (List ℕ)) (w : List ℕ) : Type 0 where
  pub nowhere : (k : ℕ) → k < length ls → line_at ls k ≡ w → ⊥
