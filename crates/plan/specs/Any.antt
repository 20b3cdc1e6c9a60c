-- Sets of steps: equal step by step, and how any_step goes with the operations.
--
--   sets_ext                              two sets that agree at each step are equal
--   any_cong                              the same test at each step, the same answer
--   any_or, any_none                      some step passes one of two tests; none passes no test
--   any_and, any_and_right                a test that asks nothing of the step
--   any_swap                              two searches, either way round
--
-- Assumes nothing.
use Rattle.std.specs.Prelude.{ℕ, suc, ◌≡◌, refl, Bool, true, false, ◌&&◌, ◌||◌, [], ◌∷◌}
use Rattle.std.proofs.Common.{sym, ap, ◌∙◌}
use Rattle.std.proofs.Math.Path.{fun_ext}
use Rattle.std.proofs.Math.Bool.{and-true, and-false}
use Rattle.meaning.specs.Query.{Step, Query, Steps, any_step}

pub sets_ext : {A B : Steps} → ((st : Step) (i : ℕ) → A st i ≡ B st i) → A ≡ B
sets_ext f = fun_ext (λ st. fun_ext (λ i. f st i))

pub any_cong : (q : Query) (i : ℕ) (h h' : Steps) → ((st : Step) (j : ℕ) → h st j ≡ h' st j) → any_step q i h ≡ any_step q i h'
any_cong q i h h' f = ap (any_step q i) (sets_ext f)

or_swap : (a b c d : Bool) → ((a || b) || (c || d)) ≡ ((a || c) || (b || d))
or_swap true b c d = refl
or_swap false true true d = refl
or_swap false true false d = refl
or_swap false false c d = refl

pub any_or : (q : Query) (i : ℕ) (h h' : Steps) → any_step q i (λ st j. h st j || h' st j) ≡ (any_step q i h || any_step q i h')
unfolding any_step
any_or [] i h h' = refl
any_or (st ∷ q) i h h' = ap (λ r. (h st i || h' st i) || r) (any_or q (suc i) h h') ∙ or_swap (h st i) (h' st i) _ _

pub any_none : (q : Query) (i : ℕ) → any_step q i (λ st j. false) ≡ false
unfolding any_step
any_none [] i = refl
any_none (st ∷ q) i = any_none q (suc i)

pub any_and : (q : Query) (i : ℕ) (c : Bool) (h : Steps) → any_step q i (λ st j. c && h st j) ≡ (c && any_step q i h)
any_and q i true h = refl
any_and q i false h = any_none q i

pub any_and_right : (q : Query) (i : ℕ) (h : Steps) (c : Bool) → any_step q i (λ st j. h st j && c) ≡ (any_step q i h && c)
any_and_right q i h true = any_cong q i _ _ (λ st j. and-true (h st j)) ∙ sym (and-true (any_step q i h))
any_and_right q i h false = any_cong q i _ _ (λ st j. and-false (h st j)) ∙ any_none q i ∙ sym (and-false (any_step q i h))

pub any_swap :
    (q r : Query) (i j : ℕ) (F : Step → ℕ → Steps) →
    any_step q i (λ st a. any_step r j (F st a)) ≡ any_step r j (λ t b. any_step q i (λ st a. F st a t b))
unfolding any_step
any_swap [] r i j F = sym (any_none r j)
any_swap (st ∷ q) r i j F =
    ap (λ x. any_step r j (F st i) || x) (any_swap q r (suc i) j F)
    ∙ sym (any_or r j (F st i) (λ t b. any_step q (suc i) (λ st a. F st a t b)))
