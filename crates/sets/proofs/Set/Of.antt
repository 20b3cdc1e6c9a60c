-- The set of the steps that pass a test. For any number of steps and any test.
--
--   member_mask_of       its members are exactly the places under n that pass
--   is_mask_of           and it is the one set with these members
--   mask_of_under        it takes n digits
--   mask_of_agree        tests that agree under n make one set
--   mask_of_wider        among more places: the same set, with the bound in the test
--   mask_of_join, mask_of_meet, mask_of_without, mask_of_none     the operations on tests are those on sets
--   mask_of_member       a set is the set of its members;  mask_of_cut: of a wider set those under n
--   mask_of_all          all places under n are the number 2 ^ n - 1
--   one_mask            a promise that says each member leaves one set
--
-- Assumes nothing. NOT here: the loop that makes it (Collect).
use Rattle.std.specs.Prelude.{ℕ, zero, suc, ◌+◌, ◌-◌, ◌*◌, ◌^◌, ◌≤◌, ◌<◌, ◌≡◌, refl, Bool, true, false, not, ◌&&◌, ◌||◌, ltb}
use Rattle.std.proofs.Common.{pow-suc, le_refl, zero-lt-suc, arith, sym, ap, ap₂, ◌∙◌, subst, pow_pos, lt-ltb, le-ltb}
use Rattle.std.proofs.Math.Decide.{dec_lt}
use Rattle.std.proofs.Math.Bool.{and-false}
use Rattle.std.proofs.Math.Arith.{digits_div, digits_mod, digits_lt}
use Rattle.std.proofs.Math.Dec.{leb-suc-suc}
use Rattle.sets.specs.Set.{lit, member, join, meet, without, bit, mask_of}
use Rattle.sets.proofs.Set.Laws.{member_join, member_meet, member_without, member_none, member_past, same_members}

bit_under : (b : Bool) → bit b < 2
bit_under true = le_refl 2
bit_under false = zero-lt-suc 1

bit_lit : (b : Bool) → lit (bit b) ≡ b
bit_lit true = refl
bit_lit false = refl

pub mask_of_under : (n : ℕ) (P : ℕ → Bool) → mask_of n P < 2 ^ n
unfolding mask_of
mask_of_under zero P = le_refl 1
mask_of_under (suc n) P =
    subst (λ x. mask_of (suc n) P < x) (sym (pow-suc 2 n)) (digits_lt (mask_of_under n (λ t. P (suc t))) (bit_under (P zero)))

pub member_mask_of : (n : ℕ) (P : ℕ → Bool) (t : ℕ) → member (mask_of n P) t ≡ (ltb t n && P t)
unfolding mask_of member
member_mask_of zero P t = member_none t ∙ sym (ap (λ b. b && P t) (le-ltb t 0 (omega arith)))
member_mask_of (suc n) P zero =
    ap lit (digits_mod (mask_of n (λ t. P (suc t))) (bit_under (P zero))) ∙ bit_lit (P zero)
    ∙ sym (ap (λ b. b && P zero) (lt-ltb zero (suc n) (omega arith)))
member_mask_of (suc n) P (suc t) =
    ap (λ x. member x t) (digits_div (mask_of n (λ u. P (suc u))) (bit_under (P zero))) ∙ member_mask_of n (λ u. P (suc u)) t
    ∙ sym (ap (λ b. b && P (suc t)) (leb-suc-suc (suc t) n))

pub is_mask_of : (n : ℕ) (P : ℕ → Bool) (r : ℕ) → ((t : ℕ) → member r t ≡ (ltb t n && P t)) → r ≡ mask_of n P
is_mask_of n P r e = same_members r (mask_of n P) (λ t. e t ∙ sym (member_mask_of n P t))

pub one_mask : (F : ℕ → Bool) (r r' : ℕ) → ((t : ℕ) → member r t ≡ F t) → ((t : ℕ) → member r' t ≡ F t) → r ≡ r'
one_mask F r r' p q = same_members r r' (λ t. p t ∙ sym (q t))

pub mask_of_agree : (n : ℕ) (P Q : ℕ → Bool) → ((t : ℕ) → t < n → P t ≡ Q t) → mask_of n P ≡ mask_of n Q
unfolding mask_of
mask_of_agree zero P Q e = refl
mask_of_agree (suc n) P Q e =
    ap₂ (λ x b. x * 2 + bit b) (mask_of_agree n (λ t. P (suc t)) (λ t. Q (suc t)) (λ t l. e (suc t) (omega arith))) (e zero (omega arith))

pub mask_of_wider : (n w : ℕ) (P : ℕ → Bool) → n ≤ w → mask_of n P ≡ mask_of w (λ t. ltb t n && P t)
mask_of_wider n w P h = is_mask_of w (λ t. ltb t n && P t) (mask_of n P) (λ t. member_mask_of n P t ∙ go t (dec_lt t n))
  where
    go : (t : ℕ) → Dec (t < n) → (ltb t n && P t) ≡ (ltb t w && (ltb t n && P t))
    go t (yes l) = ap (λ b. b && (ltb t n && P t)) (sym (lt-ltb t w (omega arith)))
    go t (no f) = let out : ltb t n ≡ false = le-ltb t n (omega arith) in rw out (sym (and-false (ltb t w)))

pub mask_of_member : (n m : ℕ) → m < 2 ^ n → m ≡ mask_of n (member m)
mask_of_member n m h = is_mask_of n (member m) m (λ t. go t (dec_lt t n))
  where
    go : (t : ℕ) → Dec (t < n) → member m t ≡ (ltb t n && member m t)
    go t (yes l) = ap (λ b. b && member m t) (sym (lt-ltb t n l))
    go t (no f) = member_past n m t h (omega arith) ∙ sym (ap (λ b. b && member m t) (le-ltb t n (omega arith)))

pub mask_of_all : (n : ℕ) → mask_of n (λ t. true) ≡ 2 ^ n - 1
unfolding mask_of
mask_of_all zero = refl
mask_of_all (suc n) = let e = mask_of_all n in let k : 0 < 2 ^ n = pow_pos n in omega (arith, pow-suc 2 n)

pub mask_of_cut : (n m : ℕ) → meet m (mask_of n (λ t. true)) ≡ mask_of n (member m)
mask_of_cut n m = is_mask_of n (member m) _ (λ t. simp (member_meet, member_mask_of) (law (member m t) (ltb t n)))
  where
    law : (a b : Bool) → (a && (b && true)) ≡ (b && a)
    law true true = refl
    law true false = refl
    law false true = refl
    law false false = refl

module _ (n : ℕ) (P Q : ℕ → Bool) where
  pub mask_of_join : mask_of n (λ t. P t || Q t) ≡ join (mask_of n P) (mask_of n Q)
  mask_of_join = same_members _ _ (λ t. simp (member_join, member_mask_of) (law (ltb t n) (P t) (Q t)))
    where
      law : (b x y : Bool) → (b && (x || y)) ≡ (b && x || b && y)
      law true x y = refl
      law false x y = refl

  pub mask_of_meet : mask_of n (λ t. P t && Q t) ≡ meet (mask_of n P) (mask_of n Q)
  mask_of_meet = same_members _ _ (λ t. simp (member_meet, member_mask_of) (law (ltb t n) (P t) (Q t)))
    where
      law : (b x y : Bool) → (b && (x && y)) ≡ (b && x && (b && y))
      law true x y = refl
      law false x y = refl

  pub mask_of_without : mask_of n (λ t. P t && not (Q t)) ≡ without (mask_of n P) (mask_of n Q)
  mask_of_without = same_members _ _ (λ t. simp (member_without, member_mask_of) (law (ltb t n) (P t) (Q t)))
    where
      law : (b x y : Bool) → (b && (x && not y)) ≡ (b && x && not (b && y))
      law true x y = refl
      law false x y = refl

pub mask_of_none : (n : ℕ) → mask_of n (λ t. false) ≡ 0
mask_of_none n = same_members _ _ (λ t. simp (member_mask_of, member_none) (and-false (ltb t n)))
