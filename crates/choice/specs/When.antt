-- One of two values by a test: how a model says what code with `if` answers.
--
--   when t a b              a where t is true, else b
--   when_true, when_false   what it is, by what the test says
--   when_yes, when_no       what equals a, or b, equals it
--   when_ap                 a function of it
--   when_and, and_when      with false for the other value both must hold, in either order
--   when_either             what holds of both holds of it
--   never                   no test answers both
--   when_known              what holds of each value where its test answers so holds of the choice
--
-- `when` is shut so that a search can go by its laws. Assumes nothing.
use Rattle.std.specs.Prelude.{ℕ, ◌≡◌, refl, Bool, true, false, ◌&&◌}
use Rattle.std.proofs.Common.{arith, sym, ap, ◌∙◌}
use mir.Val.{bool_byte}

pub never : {A : Type 0} → ◌≡◌ {A = Bool} false true → A
never h = let z : ◌≡◌ {A = ℕ} 0 1 = ap bool_byte h in absurd (omega arith)

unfoldable pub when : {A : Type 0} → Bool → A → A → A
when true a b = a
when false a b = b

module _ {A : Type 0} (t : Bool) (a b : A) where
  pub when_true : t ≡ true → when t a b ≡ a
  unfolding when
  when_true e = rw e

  pub when_false : t ≡ false → when t a b ≡ b
  unfolding when
  when_false e = rw e

pub when_yes : {A : Type 0} (t : Bool) (x a b : A) → t ≡ true → x ≡ a → x ≡ when t a b
when_yes t x a b h e = e ∙ sym (when_true t a b h)

pub when_no : {A : Type 0} (t : Bool) (x a b : A) → t ≡ false → x ≡ b → x ≡ when t a b
when_no t x a b h e = e ∙ sym (when_false t a b h)

pub when_ap : {A B : Type 0} (f : A → B) (t : Bool) (a b : A) → f (when t a b) ≡ when t (f a) (f b)
unfolding when
when_ap f true a b = refl
when_ap f false a b = refl

pub when_and : (a b : Bool) → when a b false ≡ (a && b)
unfolding when
when_and true b = refl
when_and false b = refl

pub and_when : (a b : Bool) → when a b false ≡ (b && a)
unfolding when
and_when true true = refl
and_when true false = refl
and_when false true = refl
and_when false false = refl

pub when_either : {A : Type 0} (P : A → Type 0) (t : Bool) (a b : A) → P a → P b → P (when t a b)
unfolding when
when_either P true a b p q = p
when_either P false a b p q = q

pub when_known : {A : Type 0} (P : A → Type 0) (t : Bool) (a b : A) → (t ≡ true → P a) → (t ≡ false → P b) → P (when t a b)
unfolding when
when_known P true a b p q = p refl
when_known P false a b p q = q refl
