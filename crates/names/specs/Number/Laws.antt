-- One step along a chain, and its ends.
--
--   walk_none, walk_over      what is no place ends a chain: 0, or a number over 65,533
--   walk_here, walk_on        the word fits, or the next place is looked at
--   walk_end                  no place is left to look at
--   spelled_long, spelled_past, spelled_whole       another length, past the end of the list, or the bytes decide
--   number_within             a number is one from 1 to 65,534, whatever the words of the index are
--
-- Assumes nothing.
use Prim.Native.Nat.{ℕ, zero, suc, ◌+◌, ◌-◌, ◌≤◌, ◌<◌}
use native.Mathlib.Omega.{arith}
use Rattle.std.specs.Prelude.{◌≡◌, Bool, true, false, ◌&&◌, List, leb, length, get_or, take, drop}
use Rattle.std.proofs.Math.Path.{refl, sym, ap, ap₂}
use Rattle.std.proofs.Common.{◌∙◌, eq-eqb, ne_eqb, le-leb, leb-true}
use Rattle.std.proofs.lemmas.Bool.{lt-leb}
use Rattle.choice.specs.Count.{down}
use Rattle.choice.specs.When.{when, never, when_true, when_false, when_known}
use Rattle.xml.specs.Bounds.{list_limit, unknown_name}
use Rattle.xml.proofs.Bounds.Laws.{list_limit_is, unknown_is}
use Rattle.xml.specs.Grammar.{same_name}
use Rattle.spelling.specs.Bucket.{bucket_of}
use Rattle.names.specs.Number.{spelled_at, fits_at, next_of, is_place, walked, number_of}

module _ (names : List ℕ) (from n : ℕ) (w : List ℕ) where
  pub spelled_long : (n ≡ length w → ⊥) → spelled_at names from n w ≡ false
  unfolding spelled_at
  spelled_long other = ap (λ t. t && (leb (from + n) (length names) && same_name (take n (drop from names)) w)) (ne_eqb n (length w) other)

  pub spelled_past : n ≡ length w → length names < from + n → spelled_at names from n w ≡ false
  unfolding spelled_at
  spelled_past long past =
      ap₂ (λ s t. s && (t && same_name (take n (drop from names)) w)) (eq-eqb n (length w) long) (lt-leb (from + n) (length names) past)

  -- the part of the list from byte `from` to byte `end` is compared
  pub spelled_whole :
      (t : Bool) (end : ℕ) → n ≡ length w → end ≡ from + n → end ≤ length names → t ≡ same_name (take (end - from) (drop from names)) w →
      spelled_at names from n w ≡ t
  unfolding spelled_at
  spelled_whole t end long ends within told =
      let part : n ≡ end - from = omega arith in
      ap₂ (λ s u. s && (u && same_name (take n (drop from names)) w)) (eq-eqb n (length w) long) (le-leb (from + n) (length names) (omega arith))
      ∙ ap (λ k. same_name (take k (drop from names)) w) part ∙ sym told

place_yes : (p : ℕ) → 1 ≤ p → p ≤ list_limit → is_place p ≡ true
unfolding is_place
place_yes p l h = ap₂ ◌&&◌ (le-leb 1 p l) (le-leb p list_limit h)

place_zero : (p : ℕ) → p ≡ 0 → is_place p ≡ false
unfolding is_place
place_zero p e = ap (λ t. t && leb p list_limit) (lt-leb 1 p (omega arith))

place_over : (p : ℕ) → 1 ≤ p → list_limit < p → is_place p ≡ false
unfolding is_place
place_over p l h = ap₂ ◌&&◌ (le-leb 1 p l) (lt-leb p list_limit h)

place_is : (p : ℕ) → is_place p ≡ true → (1 ≤ p) × (p ≤ list_limit)
unfolding is_place
place_is p e = go (leb 1 p) (leb p list_limit) refl refl e
  where
    go : (s t : Bool) → leb 1 p ≡ s → leb p list_limit ≡ t → (s && t) ≡ true → (1 ≤ p) × (p ≤ list_limit)
    go true true a b z = (leb-true _ _ a, leb-true _ _ b)
    go true false a b z = never z
    go false t a b z = never z

module _ (names x w : List ℕ) where
  no_place : (n p : ℕ) → is_place p ≡ false → walked names x w n p ≡ unknown_name
  unfolding walked
  no_place zero p e = refl
  no_place (suc n) p e = when_false _ _ _ e

  pub walk_none : (n p : ℕ) → p ≡ 0 → walked names x w n p ≡ unknown_name
  walk_none n p e = no_place n p (place_zero p e)

  pub walk_over : (n p : ℕ) → 1 ≤ p → list_limit < p → walked names x w n p ≡ unknown_name
  walk_over n p l h = no_place n p (place_over p l h)

  pub walk_end : (n p : ℕ) → n ≤ 0 → walked names x w n p ≡ unknown_name
  unfolding walked
  walk_end zero p l = refl
  walk_end (suc n) p l = absurd (omega arith)

  module _ (n p : ℕ) (some : 0 < n) (low : 1 ≤ p) (high : p ≤ list_limit) where
    looked : walked names x w n p ≡ when (fits_at names x w p) p (walked names x w (n - 1) (next_of x p))
    unfolding walked
    looked = ap (λ k. walked names x w k p) (down n some) ∙ when_true _ _ _ (place_yes p low high)

    pub walk_here : fits_at names x w p ≡ true → walked names x w n p ≡ p
    walk_here e = looked ∙ when_true _ _ _ e

    pub walk_on : fits_at names x w p ≡ false → walked names x w n p ≡ walked names x w (n - 1) (next_of x p)
    walk_on e = looked ∙ when_false _ _ _ e

  within : (n p : ℕ) → (1 ≤ walked names x w n p) × (walked names x w n p ≤ unknown_name)
  unfolding walked
  within zero p = (omega (arith, unknown_is), omega arith)
  within (suc n) p =
      when_known (λ r. (1 ≤ r) × (r ≤ unknown_name)) (is_place p) _ _
      (λ there. let in_List = place_is p there in
      when_known (λ r. (1 ≤ r) × (r ≤ unknown_name)) (fits_at names x w p) _ _
      (λ fits. (in_List.0, omega (arith, in_List.1, list_limit_is, unknown_is)))
      (λ other. within n (next_of x p)))
      (λ none. (omega (arith, unknown_is), omega arith))

  pub number_within : (1 ≤ number_of names x w) × (number_of names x w ≤ unknown_name)
  unfolding number_of
  number_within = within list_limit (get_or x (bucket_of w) 0)
