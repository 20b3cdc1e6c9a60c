-- A class of bytes range by range, as a row of tests goes through it.
--
--   here       the byte is in the range that was tried
--   further    it is not, and the ranges after it decide
--   last       the last range decides
--
-- Assumes nothing.
use Prim.Native.Nat.{ℕ}
use mathlib.Core.Path.{◌≡◌, refl, sym, ap, ◌∙◌}
use mathlib.Core.Bool.{Bool, true, false, ◌||◌}
use mathlib.Core.List.{[], ◌∷◌}
use Rattle.xml.specs.Class.{Range, Class, in_range, in_class}

module _ (v : Bool) (r : Range) (c : Class) (b : ℕ) (told : v ≡ in_range r b) where
  pub here : v ≡ true → true ≡ in_class (r ∷ c) b
  unfolding in_class
  here hit = sym (ap (λ x. x || in_class c b) (sym told ∙ hit))

  pub further : (x : Bool) → v ≡ false → x ≡ in_class c b → x ≡ in_class (r ∷ c) b
  unfolding in_class
  further x miss rest = rest ∙ sym (ap (λ y. y || in_class c b) (sym told ∙ miss))

or_false : (x : Bool) → x ≡ (x || false)
or_false true = refl
or_false false = refl

pub last : (v : Bool) (r : Range) (b : ℕ) → v ≡ in_range r b → v ≡ in_class (r ∷ []) b
unfolding in_class
last v r b told = told ∙ or_false (in_range r b)
