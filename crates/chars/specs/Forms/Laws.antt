-- What is left of a form, by what was found out of it; of one that goes on that is not none.
--
--   under, over, between     a byte under the lowest, over the highest, and none of the two
--   left_in_rest             what `rest_of` says is left
--
-- Assumes nothing.
use Rattle.std.specs.Prelude.{ℕ, ◌≤◌, ◌<◌, ◌≡◌, refl, Bool, true, false, Some, eqb, leb}
use Rattle.std.proofs.Common.{subst, lt-ltb, le-ltb}
use Rattle.choice.specs.When.{when, when_yes, when_no}
use Rattle.chars.specs.Forms.{whole, lowest_in, highest_in, rest_of, follows, left_of, left_in}

module _ (f b low : ℕ) (l : low ≡ lowest_in f) where
  pub under : b < low → 0 ≡ follows f b
  unfolding follows
  under h = when_yes _ _ _ _ (lt-ltb b (lowest_in f) (subst (λ n. b < n) l h)) refl

  module _ (high : ℕ) (k : high ≡ highest_in f) (g : low ≤ b) where
    pub over : high < b → 0 ≡ follows f b
    unfolding follows
    over h = when_no _ _ _ _ (le-ltb b (lowest_in f) (subst (λ n. n ≤ b) l g)) (when_yes _ _ _ _ (lt-ltb (highest_in f) b (subst (λ n. n < b) k h)) refl)

    pub between : {r : ℕ} → b ≤ high → r ≡ rest_of f b → r ≡ follows f b
    unfolding follows
    between h e =
        when_no _ _ _ _ (le-ltb b (lowest_in f) (subst (λ n. n ≤ b) l g)) (when_no _ _ _ _ (le-ltb (highest_in f) b (subst (λ n. b ≤ n) k h)) e)

unfoldable rest_by : Bool → Bool → Bool → Bool → Bool → Bool → ℕ
rest_by u v w x y z = when u whole (when v whole (when w 2 (when x 2 (when y (when z 7 1) 1))))

pub left_in_rest : (f b : ℕ) → Some (left_of (rest_of f b)) ≡ left_in (rest_of f b)
unfolding rest_of rest_by when
left_in_rest f b = go (eqb f 1) (eqb f 7) (eqb f 3) (leb 8 f) (eqb f 6) (eqb b 191)
  where
    go : (u v w x y z : Bool) → Some (left_of (rest_by u v w x y z)) ≡ left_in (rest_by u v w x y z)
    go true v w x y z = refl
    go false true w x y z = refl
    go false false true x y z = refl
    go false false false true y z = refl
    go false false false false true true = refl
    go false false false false true false = refl
    go false false false false false z = refl
