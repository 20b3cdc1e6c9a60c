-- The last element of a list, and what stands before it.
--
--   init, last             the list without its last element, and that element (or 0)
--   init_snoc, last_snoc, length_snoc      what they are, and the length, with one element more
--   snoc_some              a list with an element at its end is not empty
--   snoc_same              lists that end alike are alike before their ends
--   Ended t                t is empty, or ends in an element;  ended: each list does one of the two
--
-- Assumes nothing.
use Rattle.std.specs.Prelude.{ℕ, suc, ◌≡◌, refl, length}
use Rattle.std.proofs.Common.{arith, sym, ap, ◌∙◌, subst, length-append}
use mathlib.Core.List.{List, [], ◌∷◌, ◌++◌, append_assoc, append-nil, cons≢nil}

unfoldable pub init : List ℕ → List ℕ
init [] = []
init (b ∷ []) = []
init (b ∷ c ∷ t) = b ∷ init (c ∷ t)

unfoldable pub last : List ℕ → ℕ
last [] = 0
last (b ∷ []) = b
last (b ∷ c ∷ t) = last (c ∷ t)

pub init_snoc : (t : List ℕ) (b : ℕ) → init (t ++ (b ∷ [])) ≡ t
unfolding init
init_snoc [] b = refl
init_snoc (c ∷ []) b = refl
init_snoc (c ∷ d ∷ t) b = ap (λ z. c ∷ z) (init_snoc (d ∷ t) b)

pub last_snoc : (t : List ℕ) (b : ℕ) → last (t ++ (b ∷ [])) ≡ b
unfolding last
last_snoc [] b = refl
last_snoc (c ∷ []) b = refl
last_snoc (c ∷ d ∷ t) b = last_snoc (d ∷ t) b

pub length_snoc : (t : List ℕ) (b : ℕ) → length (t ++ (b ∷ [])) ≡ suc (length t)
length_snoc t b = simp length-append (omega arith)

pub snoc_some : (v : List ℕ) (b : ℕ) → v ++ (b ∷ []) ≡ [] → ⊥
snoc_some [] b e = cons≢nil e
snoc_some (c ∷ v) b e = cons≢nil e

pub snoc_same : (t u : List ℕ) (b c : ℕ) → t ++ (b ∷ []) ≡ u ++ (c ∷ []) → (t ≡ u) × (b ≡ c)
snoc_same t u b c e = (sym (init_snoc t b) ∙ ap init e ∙ init_snoc u c, sym (last_snoc t b) ∙ ap last e ∙ last_snoc u c)

pub data Ended : List ℕ → Type 0 where
  empty : Ended []
  snoc : (t : List ℕ) (b : ℕ) → Ended (t ++ (b ∷ []))

ended_behind : (s t : List ℕ) → Ended s → Ended (s ++ t)
ended_behind s [] h = subst Ended (sym (append-nil s)) h
ended_behind s (b ∷ t) h = subst Ended (append_assoc s (b ∷ []) t) (ended_behind (s ++ (b ∷ [])) t (snoc s b))

pub ended : (t : List ℕ) → Ended t
ended t = ended_behind [] t empty
