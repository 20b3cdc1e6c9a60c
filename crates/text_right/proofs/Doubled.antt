-- An attribute's name is that of an earlier one in the room exactly if it is among their names.
--
--   same_turned, same_lengths      names compared the other way round, and names of other lengths
--   doubled_last                   the last attribute looked at last
--   named_is                       one attribute's name compared
--   doubled_is                     what the code asks is what the machine asks
--
-- Assumes nothing.
use Prim.Native.Nat.{ℕ, zero, suc, ◌+◌, ◌≤◌, ◌<◌}
use native.Mathlib.Omega.{arith}
use Rattle.std.specs.Prelude.{◌≡◌, Bool, ◌&&◌, ◌||◌, List, [], ◌∷◌, length, get_or, take, drop}
use Rattle.std.proofs.Math.Path.{refl, sym, ap, ap₂}
use Rattle.std.proofs.Common.{◌∙◌}
use Rattle.std.proofs.Math.Bool.{true, false}
use Rattle.std.proofs.Math.Dec.{eqb}
use borrow.Author.Tests.{eq-eqb, ne_eqb, eqb-true, eqb-false, le-ltb}
use Rattle.choice.specs.When.{when, when_false}
use Rattle.xml.specs.Grammar.{same_name, among}
use Rattle.chars.specs.Same.{same_bytes}
use Rattle.slots.specs.Slots.{attribute_slot, base_of, length_in, name_in}
use Rattle.slots.specs.Copied.{is_name, doubled_from, doubled_in}
use Rattle.text_right.specs.Stands.{atts_of, begun_in}
use Rattle.text_right.proofs.Frames.{base_is, begun_length}

eqb_turned : (a b : ℕ) → eqb a b ≡ eqb b a
eqb_turned a b = go (eqb b a) refl
  where
    go : (x : Bool) → eqb b a ≡ x → eqb a b ≡ x
    go true e = eq-eqb a b (sym (eqb-true b a e))
    go false e = ne_eqb a b (λ z. eqb-false b a e (sym z))

pub same_turned : (m n : List ℕ) → same_name m n ≡ same_name n m
unfolding same_name
same_turned [] [] = refl
same_turned [] (b ∷ n) = refl
same_turned (a ∷ m) [] = refl
same_turned (a ∷ m) (b ∷ n) = ap₂ (λ x y. x && y) (eqb_turned a b) (same_turned m n)

and_false : (x : Bool) → (x && false) ≡ false
and_false true = refl
and_false false = refl

pub same_lengths : (m n : List ℕ) → (length m ≡ length n → ⊥) → same_name m n ≡ false
unfolding same_name
same_lengths [] [] f = absurd (f refl)
same_lengths [] (b ∷ n) f = refl
same_lengths (a ∷ m) [] f = refl
same_lengths (a ∷ m) (b ∷ n) f = ap (λ y. eqb a b && y) (same_lengths m n (λ e. f (ap suc e))) ∙ and_false (eqb a b)

or_assoc : (a b c : Bool) → (a || (b || c)) ≡ ((a || b) || c)
or_assoc true b c = refl
or_assoc false b c = refl

or_turned : (a b : Bool) → (a || b) ≡ (b || a)
or_turned true true = refl
or_turned true false = refl
or_turned false true = refl
or_turned false false = refl

or_false : (a : Bool) → (a || false) ≡ a
or_false true = refl
or_false false = refl

when_or : (a b : Bool) → when a true b ≡ (a || b)
unfolding when
when_or true b = refl
when_or false b = refl

module _ (R : List ℕ) (at n : ℕ) where
  -- the last attribute looked at last
  pub doubled_last : (m k : ℕ) → doubled_from R at n k (suc m) ≡ (doubled_from R at n k m || is_name R (attribute_slot + (k + m)) at n)
  unfolding doubled_from
  doubled_last zero k =
      let e : k ≡ k + 0 = omega arith in
      when_or _ _ ∙ or_false _ ∙ ap (λ z. is_name R (attribute_slot + z) at n) e
  doubled_last (suc m) k =
      let e : k + 1 + m ≡ k + suc m = omega arith in
      let a = is_name R (attribute_slot + k) at n in
      when_or a (doubled_from R at n (k + 1) (suc m))
      ∙ ap (λ x. a || x) (doubled_last m (k + 1))
      ∙ or_assoc a _ _
      ∙ ap₂ (λ x z. x || is_name R (attribute_slot + z) at n) (sym (when_or a (doubled_from R at n (k + 1) m))) e

-- one attribute's name compared
module _ (R : List ℕ) (s t n : ℕ) (long : length R ≡ 18_496) (ls : s < 272) (lt : t < 272) (short : get_or R (base_of s + 64) 0 ≤ 64) (most : n ≤ 64) where
  plain_length : length_in R s ≡ get_or R (base_of s + 64) 0
  unfolding length_in
  plain_length = when_false _ _ _ (le-ltb 64 (get_or R (base_of s + 64) 0) short)

  name_length_lem : length (name_in R s) ≡ get_or R (base_of s + 64) 0
  unfolding name_in begun_in
  name_length_lem =
      let e = base_is s ls in
      let f = plain_length in
      begun_length R s (length_in R s) (omega arith) ∙ f

  new_length : length (begun_in R t n) ≡ n
  new_length = let e = base_is t lt in begun_length R t n (omega arith)

  pub named_is : is_name R s (base_of t) n ≡ same_name (begun_in R t n) (name_in R s)
  unfolding is_name same_bytes begun_in name_in when
  named_is = go (eqb (get_or R (base_of s + 64) 0) n) refl
    where
      go :
          (x : Bool) → eqb (get_or R (base_of s + 64) 0) n ≡ x
          → when x (same_bytes R (base_of s) R (base_of t) n) false ≡ same_name (begun_in R t n) (name_in R s)
      go true e =
          same_turned (take n (drop (base_of s) R)) (take n (drop (base_of t) R))
          ∙ ap (λ z. same_name (take n (drop (base_of t) R)) (take z (drop (base_of s) R))) (sym (plain_length ∙ eqb-true _ n e))
      go false e = sym (same_lengths _ _ (λ z. eqb-false _ n e (sym name_length_lem ∙ sym z ∙ new_length)))

module _ (R : List ℕ) (k n : ℕ) (long : length R ≡ 18_496) (few : k < 16) (most : n ≤ 64)
    (short : (j : ℕ) → j < k → get_or R (base_of (attribute_slot + j) + 64) 0 ≤ 64) where
  doubled_some : (m : ℕ) → m ≤ k → doubled_from R (base_of (attribute_slot + k)) n 0 m ≡ among (begun_in R (attribute_slot + k) n) (atts_of R m)
  unfolding among atts_of doubled_from
  doubled_some zero l = refl
  doubled_some (suc m) l =
      let e : 0 + m ≡ m = omega arith in
      doubled_last R (base_of (attribute_slot + k)) n m 0
      ∙ ap₂ (λ x z. x || is_name R (attribute_slot + z) (base_of (attribute_slot + k)) n) (doubled_some m (omega arith)) e
      ∙ ap (λ x. among (begun_in R (attribute_slot + k) n) (atts_of R m) || x)
      (named_is R (attribute_slot + m) (attribute_slot + k) n long (omega arith) (omega arith) (short m l) most)
      ∙ or_turned (among (begun_in R (attribute_slot + k) n) (atts_of R m)) (same_name (begun_in R (attribute_slot + k) n) (name_in R (attribute_slot + m)))

  pub doubled_is : doubled_in R k n ≡ among (begun_in R (attribute_slot + k) n) (atts_of R k)
  unfolding doubled_in
  doubled_is = doubled_some k (omega arith)
