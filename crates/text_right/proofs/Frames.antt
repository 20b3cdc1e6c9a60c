-- What a byte written into the room leaves as it was, and what it makes.
--
--   base_is                       where a slot begins
--   Out i s                       the byte i is not one of the name in slot s, or of its length
--   name_kept, names_kept, place_kept, atts_kept, begun_kept      names that stay, in a slot, below a slot, of open elements, of attributes, of a part
--   length_most, length_kept, length_measured      a name's length
--   begun_more                    one byte more of a name
--   measured_is                   a name that is whole now
--   open_is                       how many elements are open
--   kept_set, kept_more, kept_less, kept_none      what holds of the room goes on to hold
--   names_length, atts_length, begun_length      how many names, and how long they are
--
-- Assumes nothing.
use Prim.Native.Nat.{ℕ, zero, suc, ◌+◌, ◌*◌, ◌-◌, ◌≤◌, ◌<◌}
use native.Mathlib.Omega.{arith}
use Rattle.std.proofs.Common.{add-one, ◌∙◌, length-take, length-drop, get_or-set_same, get_or-set_other, drop-set-lt}
use Rattle.std.proofs.Common.{eq-eqb, ne_eqb, eqb-true, ltb-false, le-ltb}
use Rattle.std.specs.Prelude.{◌≡◌, Bool, true, false, List, [], ◌∷◌, ◌++◌, eqb, ltb, length, get_or, set, drop}
use Rattle.std.proofs.Math.Path.{refl, sym, ap, ap₂, subst}
use Rattle.std.proofs.Math.ListN.{take, length-set}
use Rattle.std.proofs.Math.Seq.{take-set-le, take-suc-set}
use Rattle.std.proofs.lemmas.List.{drop-set-add}
use Rattle.std.proofs.lemmas.Bool.{eqb-false}
use Rattle.choice.specs.When.{when, when_true, when_false, when_known}
use Rattle.xml.specs.Machine.{Place}
use Rattle.slots.specs.Slots.{attribute_slot, base_of, length_in, name_in}
use Rattle.slots.specs.Slots.Laws.{base_inside}
use Rattle.modes.specs.Moves.{after_place, open_at}
use Rattle.text_right.specs.Stands.{names, atts_of, place_of, begun_in}
use Rattle.text_right.specs.Sound.{Kept}

pub base_is : (s : ℕ) → s < 272 → base_of s ≡ s * 68
base_is s h = sym (base_inside s h)

pub length_most : (R : List ℕ) (s : ℕ) → length_in R s ≤ 64
unfolding length_in
length_most R s =
    when_known (λ z. z ≤ 64) (ltb 64 (get_or R (base_of s + 64) 0)) 64 (get_or R (base_of s + 64) 0) (λ e. omega arith) (λ e. ltb-false _ _ e)

pub data Out (i s : ℕ) : Type 0 where
  under : i < base_of s → Out i s
  over : base_of s + 64 < i → Out i s

module _ (R : List ℕ) (i v s : ℕ) where
  apart : Out i s → (base_of s + 64 ≡ i → ⊥)
  apart (Out.under h) e = omega arith
  apart (Out.over h) e = omega arith

  pub length_kept : Out i s → length_in (set R i v) s ≡ length_in R s
  unfolding length_in
  length_kept h = ap (λ x. when (ltb 64 x) 64 x) (get_or-set_other R i (base_of s + 64) v 0 (apart h))

  -- the first n bytes
  pub begun_kept : (n : ℕ) → n ≤ 64 → Out i s → begun_in (set R i v) s n ≡ begun_in R s n
  unfolding begun_in
  begun_kept n l (Out.under h) = ap (take n) (drop-set-lt (base_of s) R i v h)
  begun_kept n l (Out.over h) =
      let d = i - base_of s in
      let e : i ≡ base_of s + d = omega arith in
      ap (λ z. take n (drop (base_of s) (set R z v))) e ∙ ap (take n) (drop-set-add (base_of s) R d v) ∙ take-set-le n (drop (base_of s) R) d v (omega arith)

  pub name_kept : Out i s → name_in (set R i v) s ≡ name_in R s
  unfolding name_in begun_in
  name_kept h = ap (λ n. take n (drop (base_of s) (set R i v))) (length_kept h) ∙ begun_kept (length_in R s) (length_most R s) h

module _ (R : List ℕ) (i v : ℕ) where
  pub names_kept : (d : ℕ) → d ≤ 256 → d * 68 ≤ i → names (set R i v) d ≡ names R d
  unfolding names
  names_kept zero l h = refl
  names_kept (suc d) l h =
      let e = base_is d (omega arith) in
      ap₂ (λ x y. x ∷ y) (name_kept R i v d (Out.over (omega arith))) (names_kept d (omega arith) (omega arith))

  pub place_kept : (p : ℕ) → p ≤ 256 → p * 68 ≤ i → place_of (set R i v) p ≡ place_of R p
  unfolding place_of
  place_kept zero l h = when_true _ _ _ (eq-eqb 0 0 refl) ∙ sym (when_true _ _ _ (eq-eqb 0 0 refl))
  place_kept (suc d) l h =
      let e = base_is d (omega arith) in
      let z : suc d - 1 ≡ d = omega arith in
      ap₂ (λ x y. when (eqb (suc d) 0) Place.before (when (eqb (suc d) after_place) Place.after (Place.inside x y)))
      (ap (name_in (set R i v)) z ∙ name_kept R i v d (Out.over (omega arith)) ∙ ap (name_in R) (sym z))
      (ap (names (set R i v)) z ∙ names_kept d (omega arith) (omega arith) ∙ ap (names R) (sym z))

  pub atts_kept : (k : ℕ) → k ≤ 16 → (256 + k) * 68 ≤ i → atts_of (set R i v) k ≡ atts_of R k
  unfolding atts_of
  atts_kept zero l h = refl
  atts_kept (suc k) l h =
      let e = base_is (attribute_slot + k) (omega arith) in
      ap₂ (λ x y. x ∷ y) (name_kept R i v (attribute_slot + k) (Out.over (omega arith))) (atts_kept k (omega arith) (omega arith))

  pub kept_set : {p : ℕ} → p ≤ 256 → p * 68 ≤ i → Kept R p → Kept (set R i v) p
  unfolding open_at
  kept_set {p} l h k =
      record {
        long = length-set R i v ∙ k.long;
        filled =
            λ s m.
            let m' : s < open_at p = m in
            let q : open_at p ≡ p = when_false _ _ _ (ne_eqb p after_place (λ z. omega arith)) in
            let u : s < p = omega arith in
            let e = base_is s (omega arith) in
            subst (λ z. 1 ≤ z) (sym (length_kept R i v s (Out.over (omega arith)))) (k.filled s m);
      }

module _ (R : List ℕ) (s n b : ℕ) (fits : base_of s + n < length R) where
  pub begun_more : begun_in (set R (base_of s + n) b) s (n + 1) ≡ begun_in R s n ++ (b ∷ [])
  unfolding begun_in
  begun_more =
      ap₂ take (add-one n) (drop-set-add (base_of s) R n b)
      ∙ take-suc-set (drop (base_of s) R) n b (subst (λ z. n < z) (sym (length-drop (base_of s) R)) (omega arith))

module _ (R : List ℕ) (s n : ℕ) (most : n ≤ 64) (fits : base_of s + 64 < length R) where
  pub length_measured : length_in (set R (base_of s + 64) n) s ≡ n
  unfolding length_in
  length_measured =
      ap (λ x. when (ltb 64 x) 64 x) (get_or-set_same R (base_of s + 64) n 0 fits) ∙ when_false _ _ _ (le-ltb 64 n most)

  pub measured_is : name_in (set R (base_of s + 64) n) s ≡ begun_in R s n
  unfolding name_in begun_in
  measured_is =
      ap (λ z. take z (drop (base_of s) (set R (base_of s + 64) n))) length_measured
      ∙ ap (take n) (drop-set-add (base_of s) R 64 n)
      ∙ take-set-le n (drop (base_of s) R) 64 n most

pub open_is : (p : ℕ) → p ≤ 256 → open_at p ≡ p
unfolding open_at
open_is p l = when_false _ _ _ (ne_eqb p after_place (λ z. omega arith))

pub names_length : (R : List ℕ) (d : ℕ) → length (names R d) ≡ d
unfolding names
names_length R zero = refl
names_length R (suc d) = ap suc (names_length R d)

pub atts_length : (R : List ℕ) (k : ℕ) → length (atts_of R k) ≡ k
unfolding atts_of
atts_length R zero = refl
atts_length R (suc k) = ap suc (atts_length R k)

pub begun_length : (R : List ℕ) (s n : ℕ) → base_of s + n ≤ length R → length (begun_in R s n) ≡ n
unfolding begun_in
begun_length R s n h = simp (length-take, length-drop) (omega arith)

-- one element more is open
pub kept_more : (R : List ℕ) (p : ℕ) → p < 256 → Kept R p → 1 ≤ length_in R p → Kept R (p + 1)
kept_more R p l k h = record { long = k.long; filled = λ s m. go s (eqb s p) refl m }
  where
    go : (s : ℕ) (x : Bool) → eqb s p ≡ x → s < open_at (p + 1) → 1 ≤ length_in R s
    go s true e m = subst (λ z. 1 ≤ length_in R z) (sym (eqb-true s p e)) h
    go s false e m =
        let d = eqb-false s p e in
        let u = open_is (p + 1) (omega arith) in
        let w = open_is p (omega arith) in
        k.filled s (less s d (omega arith) w)
      where
        less : (s : ℕ) → (s ≡ p → ⊥) → s < p + 1 → open_at p ≡ p → s < open_at p
        less s d u w = omega arith

-- one less
pub kept_less : (R : List ℕ) (p : ℕ) → p ≤ 256 → Kept R p → Kept R (p - 1)
kept_less R p l k =
    record {
      long = k.long;
      filled =
          λ s m.
          let m' : s < open_at (p - 1) = m in
          let u = open_is (p - 1) (omega arith) in
          let w = open_is p l in
          k.filled s (omega arith);
    }

-- none is
pub kept_none : (R : List ℕ) (p : ℕ) → Kept R p → Kept R after_place
unfolding open_at when
kept_none R p k = record { long = k.long; filled = λ s m. absurd (none s m) }
  where
    none : (s : ℕ) → s < 0 → ⊥
    none s m = omega arith
