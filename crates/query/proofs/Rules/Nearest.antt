-- What `nearest` finds.
--
--   Nearest q s m   m is the nearest main-path step among the first s: none among them comes after it; 0 where there is none
--   nearest_is      `nearest` finds it
--   nearest_one     there is one only
--
-- Assumes nothing.
use Rattle.std.specs.Prelude.{ℕ, zero, suc, ◌≤◌, ◌<◌, ◌≡◌, refl, Bool, true, false, List}
use Rattle.std.proofs.Common.{sym, ◌∙◌, true≢false, ⊎_elim, eq-or-lt_of_le, le_of_suc-le-suc, arith}
use Rattle.meaning.specs.Query.{nearer}
use Rattle.query.specs.Rules.{step_of, is_main, nearest}

pub record Nearest (q : List ℕ) (s m : ℕ) : Type 0 where
  pub within : m ≤ s
  pub main : (t : ℕ) → m ≡ suc t → is_main (step_of q t) ≡ true
  pub none : (t : ℕ) → m ≤ t → t < s → is_main (step_of q t) ≡ false

nearer_is : (q : List ℕ) (s near : ℕ) (b : Bool) → is_main (step_of q s) ≡ b → Nearest q s near → Nearest q (suc s) (nearer b (suc s) near)
unfolding nearer
nearer_is q s near true is n = record {
  within = omega arith;
  main = λ t e. let same : t ≡ s = omega arith in rw same is;
  none = λ t above below. absurd (omega arith);
}
nearer_is q s near false is n = record {
  within = omega arith;
  main = n.main;
  none = λ t above below. ⊎_elim (λ same. rw same is) (λ lower. n.none t above lower) (eq-or-lt_of_le (le_of_suc-le-suc below));
}

pub nearest_is : (q : List ℕ) (s : ℕ) → Nearest q s (nearest q s)
unfolding nearest
nearest_is q zero = record { within = omega arith; main = λ t e. absurd (omega arith); none = λ t above below. absurd (omega arith) }
nearest_is q (suc s) = nearer_is q s (nearest q s) (is_main (step_of q s)) refl (nearest_is q s)

not_above : (q : List ℕ) (s m n : ℕ) → Nearest q s m → Nearest q s n → m < n → ⊥
not_above q s m zero a b lower = omega arith
not_above q s m (suc t) a b lower = true≢false (sym (b.main t refl) ∙ a.none t (omega arith) (omega (arith, b.within)))

pub nearest_one : (q : List ℕ) (s m n : ℕ) → Nearest q s m → Nearest q s n → m ≡ n
nearest_one q s m n a b = omega (arith, not_above q s m n a b, not_above q s n m b a)
