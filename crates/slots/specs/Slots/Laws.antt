-- The slots' numbers, and what is read and written of one.
--
--   room_is                   18,496 bytes
--   base_inside, base_past    where a slot begins that is there, and one that is not
--   name_bytes_are            a slot's names are as long as the limit of a name
--   length_long, length_short      the length of a name that counts as the limit, and as it is
--   number_read               the number from its two bytes;  name_part: the name as a part of the room
--
-- Assumes nothing.
use Rattle.std.specs.Prelude.{ℕ, ◌+◌, ◌*◌, ◌-◌, ◌≤◌, ◌<◌, ◌≡◌, refl, List, take, drop}
use Rattle.std.proofs.Common.{arith, ap₂, ◌∙◌, subst, lt-ltb, le-ltb}
use Rattle.std.proofs.Math.Path.{sym, ap}
use Rattle.std.proofs.Math.ListN.{get_or}
use Rattle.choice.specs.When.{when_true, when_false}
use Rattle.xml.specs.Bounds.{name_limit}
use Rattle.xml.proofs.Bounds.Laws.{name_limit_is}
use Rattle.slots.specs.Slots.{room_needed, name_bytes, base_of, length_in, name_in, number_in}

pub room_is : room_needed ≡ 18_496
unfolding room_needed
room_is = refl

pub name_bytes_are : name_bytes ≡ name_limit
name_bytes_are = sym name_limit_is

pub base_inside : (s : ℕ) → s < 272 → s * 68 ≡ base_of s
unfolding base_of
base_inside s h = sym (when_true _ _ _ (lt-ltb s 272 h))

pub base_past : (s : ℕ) → 272 ≤ s → 0 ≡ base_of s
unfolding base_of
base_past s h = sym (when_false _ (s * 68) _ (le-ltb s 272 h))

module _ (R : List ℕ) (s at : ℕ) (e : at ≡ base_of s) where
  pub length_long : name_bytes < get_or R (at + name_bytes) 0 → name_bytes ≡ length_in R s
  unfolding length_in
  length_long h = sym (when_true _ _ (get_or R (base_of s + name_bytes) 0) (lt-ltb name_bytes _ (subst (λ k. name_bytes < get_or R (k + name_bytes) 0) e h)))

  pub length_short : get_or R (at + name_bytes) 0 ≤ name_bytes → get_or R (at + name_bytes) 0 ≡ length_in R s
  unfolding length_in
  length_short h =
      ap (λ k. get_or R (k + name_bytes) 0) e
      ∙ sym (when_false _ name_bytes (get_or R (base_of s + name_bytes) 0) (le-ltb name_bytes _ (subst (λ k. get_or R (k + name_bytes) 0 ≤ name_bytes) e h)))

  pub number_read : get_or R (at + 65) 0 * 256 + get_or R (at + 66) 0 ≡ number_in R s
  unfolding number_in
  number_read = ap (λ k. get_or R (k + 65) 0 * 256 + get_or R (k + 66) 0) e

pub name_part : (R : List ℕ) (s at n : ℕ) → at ≡ base_of s → n ≡ length_in R s → take ((at + n) - at) (drop at R) ≡ name_in R s
unfolding name_in
name_part R s at n e f = let g : (at + n) - at ≡ n = omega arith in ap₂ (λ k j. take k (drop j R)) (g ∙ f) e
