-- What is a member of each set, and that the members make the set. For any number of steps.
--
--   member_join, member_meet, member_without, member_none, member_one, member_with, member_only_if     each operation, member by member
--   member_past        a number under 2 ^ n has no step at the place n or after
--   same_members       two sets with the same members are equal
--   no_members         a set with no member is empty
--   some_member        a set that is not empty has a member
--
-- Assumes nothing. NOT here: covers and overlaps (Set.Order), maskOf (Set.Of).
use Prim.Native.Nat.{ℕ, zero, suc, ◌+◌, ◌-◌, ◌*◌, ◌/◌, ◌%◌, ◌^◌, ◌≤◌, ◌<◌, min, max}
use Rattle.std.proofs.Common.{mod-lt, pow-suc, zero-lt-suc, le_refl, lt_of_lt_of_le, arith, sym, ◌∙◌, true≢false, pow_mono, lit<}
use Rattle.std.specs.Prelude.{◌≡◌, refl, Bool, true, false, not, ◌&&◌, ◌||◌, eqb}
use Rattle.std.proofs.Math.Path.{ap}
use Rattle.std.proofs.lemmas.Bool.{false≢true}
use Rattle.std.proofs.Math.Arith.{digits_div, digits_mod, lt-one, bin_ind}
use Rattle.std.specs.Int.Bits.{and_step, or_step}
use Rattle.std.proofs.lemmas.Nat.{and_le_l}
use Rattle.std.proofs.Math.Dec.{eqb-zero-suc, eqb-suc-zero, eqb-suc-suc}
use Rattle.sets.specs.Set.{lit, member, join, meet, without, one, with, only_if}

two_pos : zero < 2
two_pos = zero-lt-suc 1

on_digits : (P : ℕ → ℕ → Type 0) → P 0 0 → P 0 1 → P 1 0 → P 1 1 → (x y : ℕ) → x < 2 → y < 2 → P x y
on_digits P a b c d zero zero h k = a
on_digits P a b c d zero (suc zero) h k = b
on_digits P a b c d (suc zero) zero h k = c
on_digits P a b c d (suc zero) (suc zero) h k = d
on_digits P a b c d zero (suc (suc y)) h k = absurd (omega arith)
on_digits P a b c d (suc zero) (suc (suc y)) h k = absurd (omega arith)
on_digits P a b c d (suc (suc x)) y h k = absurd (omega arith)

-- an operation that goes digit by digit, by f on digits and by g on tests

abbrev Digitwise : (ℕ → ℕ → ℕ) → (Bool → Bool → Bool) → ℕ → ℕ → Type 0
Digitwise f g x y = (f x y < 2) × (lit (f x y) ≡ g (lit x) (lit y))

module _ (op f : ℕ → ℕ → ℕ) (g : Bool → Bool → Bool)
    (step : (a b : ℕ) → op a b ≡ op (a / 2) (b / 2) * 2 + f (a % 2) (b % 2))
    (digits : (x y : ℕ) → x < 2 → y < 2 → Digitwise f g x y) where
  here : (a b : ℕ) → Digitwise f g (a % 2) (b % 2)
  here a b = digits (a % 2) (b % 2) (mod-lt a two_pos) (mod-lt b two_pos)

  member_op : (a b t : ℕ) → member (op a b) t ≡ g (member a t) (member b t)
  unfolding member
  member_op a b zero = ap (λ x. lit (x % 2)) (step a b) ∙ ap lit (digits_mod (op (a / 2) (b / 2)) (here a b).0) ∙ (here a b).1
  member_op a b (suc t) =
      ap (λ x. member (x / 2) t) (step a b)
      ∙ ap (λ x. member x t) (digits_div (op (a / 2) (b / 2)) (here a b).0)
      ∙ member_op (a / 2) (b / 2) t

pub member_join : (a b t : ℕ) → member (join a b) t ≡ (member a t || member b t)
member_join =
    member_op join max ◌||◌ or_step
    (on_digits (Digitwise max ◌||◌) (lit< tt, refl) (lit< tt, refl) (lit< tt, refl) (lit< tt, refl))

pub member_meet : (a b t : ℕ) → member (meet a b) t ≡ (member a t && member b t)
member_meet =
    member_op meet min ◌&&◌ and_step
    (on_digits (Digitwise min ◌&&◌) (lit< tt, refl) (lit< tt, refl) (lit< tt, refl) (lit< tt, refl))

abbrev less : ℕ → ℕ → ℕ
less x y = x - min x y

abbrev but : Bool → Bool → Bool
but x y = x && not y

without_step : (a b : ℕ) → without a b ≡ without (a / 2) (b / 2) * 2 + less (a % 2) (b % 2)
unfolding without
without_step a b = omega (arith, and_step a b, and_le_l (a / 2) (b / 2))

pub member_without : (a b t : ℕ) → member (without a b) t ≡ (member a t && not (member b t))
member_without =
    member_op without less but without_step
    (on_digits (Digitwise less but) (lit< tt, refl) (lit< tt, refl) (lit< tt, refl) (lit< tt, refl))

pub member_none : (t : ℕ) → member 0 t ≡ false
unfolding member
member_none zero = refl
member_none (suc t) = member_none t

pub member_past : (n a t : ℕ) → a < 2 ^ n → n ≤ t → member a t ≡ false
unfolding member
member_past zero a t h l = ap (λ x. member x t) (lt-one h) ∙ member_none t
member_past (suc n) a zero h l = absurd (omega arith)
member_past (suc n) a (suc t) h l = member_past n (a / 2) t (omega (arith, pow-suc 2 n)) (omega arith)

pub member_one : (s t : ℕ) → member (one s) t ≡ eqb s t
unfolding member
member_one zero zero = refl
member_one zero (suc t) = member_none t ∙ sym (eqb-zero-suc t)
member_one (suc s) zero = let e : one (suc s) % 2 ≡ 0 = omega (arith, pow-suc 2 s) in ap lit e ∙ sym (eqb-suc-zero s)
member_one (suc s) (suc t) =
    let e : one (suc s) / 2 ≡ one s = omega (arith, pow-suc 2 s) in
    ap (λ x. member x t) e ∙ member_one s t ∙ sym (eqb-suc-suc s t)

pub member_with : (m s t : ℕ) → member (with m s) t ≡ (member m t || eqb s t)
member_with m s t = member_join m (one s) t ∙ ap (λ b. member m t || b) (member_one s t)

pub member_only_if : (b : Bool) (s t : ℕ) → member (only_if b s) t ≡ (b && eqb s t)
unfolding only_if
member_only_if true s t = member_one s t
member_only_if false s t = member_none t

-- the members make the set

lit_same : (x y : ℕ) → x < 2 → y < 2 → lit x ≡ lit y → x ≡ y
lit_same =
    on_digits (λ x y. lit x ≡ lit y → x ≡ y) (λ e. refl) (λ e. absurd (false≢true e)) (λ e. absurd (true≢false e)) (λ e. refl)

same_below : (n a b : ℕ) → a < 2 ^ n → b < 2 ^ n → ((t : ℕ) → member a t ≡ member b t) → a ≡ b
unfolding member
same_below zero a b h k e = lt-one h ∙ sym (lt-one k)
same_below (suc n) a b h k e =
    let high : a / 2 ≡ b / 2 = same_below n (a / 2) (b / 2) (omega (arith, pow-suc 2 n)) (omega (arith, pow-suc 2 n)) (λ t. e (suc t)) in
    let low : a % 2 ≡ b % 2 = lit_same (a % 2) (b % 2) (mod-lt a two_pos) (mod-lt b two_pos) (e zero) in
    omega arith

under_pow : (n : ℕ) → n < 2 ^ n
under_pow zero = le_refl 1
under_pow (suc n) = let ih = under_pow n in omega (arith, pow-suc 2 n)

pub same_members : (a b : ℕ) → ((t : ℕ) → member a t ≡ member b t) → a ≡ b
same_members a b =
    same_below (a + b) a b (lt_of_lt_of_le (under_pow a) (pow_mono (omega arith))) (lt_of_lt_of_le (under_pow b) (pow_mono (omega arith)))

pub no_members : (a : ℕ) → ((t : ℕ) → member a t ≡ false) → a ≡ 0
no_members a e = same_members a 0 (λ t. e t ∙ sym (member_none t))

pub some_member : (a : ℕ) → 0 < a → (t : ℕ) × (member a t ≡ true)
unfolding member
some_member = bin_ind (λ a. 0 < a → (t : ℕ) × (member a t ≡ true)) (λ h. absurd (omega arith)) (λ a ih h. go a ih h (a % 2) refl)
  where
    go : (a : ℕ) → (0 < a / 2 → (t : ℕ) × (member (a / 2) t ≡ true)) → 0 < a → (d : ℕ) → a % 2 ≡ d → (t : ℕ) × (member a t ≡ true)
    go a ih h zero e = let rest = ih (omega arith) in (suc rest.0, rest.1)
    go a ih h (suc d) e = (zero, ap lit e)
