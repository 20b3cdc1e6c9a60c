-- Tests of a number that a call has answered, by its promise and by what the code found.
--
--   said       the laws that a search goes by, beside `tests`: the number answered is, or is not, one of two that are compared
--
-- The laws take all their arguments, so that a search can give them. Assumes nothing.
use Rattle.std.specs.Prelude.{ℕ, ◌≤◌, ◌<◌, ◌≡◌, true, false, eqb, leb}
use Rattle.std.proofs.Common.{sym, ◌∙◌, subst, eq-eqb, ne_eqb, le-leb}
use Rattle.std.proofs.lemmas.Bool.{lt-leb}

pub left_is : (r m k : ℕ) → r ≡ m → r ≡ k → eqb m k ≡ true
left_is r m k p q = eq-eqb m k (sym p ∙ q)

pub left_other : (r m k : ℕ) → r ≡ m → (r ≡ k → ⊥) → eqb m k ≡ false
left_other r m k p f = ne_eqb m k (λ e. f (p ∙ e))

pub right_is : (r m k : ℕ) → r ≡ m → k ≡ r → eqb k m ≡ true
right_is r m k p q = eq-eqb k m (q ∙ p)

pub right_other : (r m k : ℕ) → r ≡ m → (k ≡ r → ⊥) → eqb k m ≡ false
right_other r m k p f = ne_eqb k m (λ e. f (e ∙ sym p))

pub left_most : (r m k : ℕ) → r ≡ m → r ≤ k → leb m k ≡ true
left_most r m k p q = le-leb m k (subst (λ z. z ≤ k) p q)

pub left_over : (r m k : ℕ) → r ≡ m → k < r → leb m k ≡ false
left_over r m k p q = lt-leb m k (subst (λ z. k < z) p q)

pub ruleset said = (left_is, left_other, right_is, right_other, left_most, left_over)
