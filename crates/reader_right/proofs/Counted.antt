-- The numbers of the open elements' names, which are kept beside them in their slots (specs/Counted).
--
--   counted_none, counted_fewer, counted_same      no slot; fewer slots; in another room that is the same there
--   numbered_number, counted_more       a number that is put into a slot is the slot's, and the others' stay
--
-- R is the room. Assumes nothing.
use Rattle.std.specs.Prelude.{ℕ, ◌+◌, ◌*◌, ◌/◌, ◌%◌, ◌≤◌, ◌<◌, ◌≡◌, refl, Bool, true, false, List, ltb, length, set}
use native.Mathlib.Omega.{arith}
use Rattle.std.proofs.Common.{sym, ap, ◌∙◌, subst, ltb-true, ltb-false}
use Rattle.std.proofs.Math.Path.{ap₂}
use Rattle.std.proofs.Math.ListN.{get_or, length-set}
use Rattle.std.proofs.Math.Seq.{get_or-set_same, get_or-set_other}
use Rattle.slots.specs.Slots.{base_of, name_in, number_in, numbered}
use Rattle.text_right.proofs.Frames.{base_is}
use Rattle.text_right.proofs.Numbered.{numbered_name}
use Rattle.text_right.proofs.Below.{Same, number_same, name_same}
use Rattle.reader_right.specs.Counted.{Counted}

module _ (f : List ℕ → ℕ) where
  pub counted_none : (R : List ℕ) (d : ℕ) → d ≡ 0 → Counted f R d
  counted_none R d e = record { each = λ s l. let k : s < d = l in absurd (omega arith) }

  pub counted_fewer : (R : List ℕ) (c d : ℕ) → c ≤ d → Counted f R d → Counted f R c
  counted_fewer R c d h k = record { each = λ s l. let m : s < c = l in k.each s (omega arith) }

  pub counted_same : (R S : List ℕ) (d : ℕ) → d ≤ 256 → Same R S d → length S ≡ length R → Counted f R d → Counted f S d
  counted_same R S d m h e k =
      record { each = λ s l. number_same R S d s h l m ∙ k.each s l ∙ ap f (sym (name_same R S d s h l m e)) }

  module _ (R : List ℕ) (p x : ℕ) (deep : p < 256) (long : length R ≡ 18_496) where
    pub numbered_number : x < 65_536 → number_in (numbered R p x) p ≡ x
    unfolding number_in numbered
    numbered_number l =
        let b = base_is p (omega arith) in
        let n = length-set R (base_of p + 65) (x / 256) in
        ap₂ (λ u v. u * 256 + v)
        (get_or-set_other (set R (base_of p + 65) (x / 256)) (base_of p + 66) (base_of p + 65) (x % 256) 0 (λ e. omega arith)
        ∙ get_or-set_same R (base_of p + 65) (x / 256) 0 (omega arith))
        (get_or-set_same (set R (base_of p + 65) (x / 256)) (base_of p + 66) (x % 256) 0 (omega arith))
        ∙ (let z : x / 256 * 256 + x % 256 ≡ x = omega arith in z)

    other_number : (s : ℕ) → s < p → number_in (numbered R p x) s ≡ number_in R s
    unfolding number_in numbered
    other_number s l =
        let a = base_is s (omega arith) in
        let b = base_is p (omega arith) in
        let apart : (j k : ℕ) → j < 68 → k < 68 → (base_of s + j ≡ base_of p + k → ⊥) = λ j k lj lk e. omega (arith, a, b, l) in
        let same : (j : ℕ) → j < 68 → get_or (numbered R p x) (base_of s + j) 0 ≡ get_or R (base_of s + j) 0 =
        λ j lj.
        get_or-set_other (set R (base_of p + 65) (x / 256)) (base_of p + 66) (base_of s + j) (x % 256) 0 (apart j 66 lj (omega arith))
        ∙ get_or-set_other R (base_of p + 65) (base_of s + j) (x / 256) 0 (apart j 65 lj (omega arith)) in
        ap₂ (λ u v. u * 256 + v) (same 65 (omega arith)) (same 66 (omega arith))

    -- the number of the name in slot p is put there
    pub counted_more : x ≡ f (name_in R p) → x < 65_536 → Counted f R p → Counted f (numbered R p x) (p + 1)
    counted_more e l k =
        record {
          each =
              λ s h.
              go s h (ltb s p) refl;
        }
      where
        name : (s : ℕ) → s < 272 → name_in (numbered R p x) s ≡ name_in R s
        name s h = numbered_name R p x (omega arith) s h

        go : (s : ℕ) → s < p + 1 → (t : Bool) → ltb s p ≡ t → number_in (numbered R p x) s ≡ f (name_in (numbered R p x) s)
        go s h true t =
            let below : s < p = ltb-true _ _ t in
            other_number s below ∙ k.each s below ∙ ap f (sym (name s (omega arith)))
        go s h false t =
            let above : p ≤ s = ltb-false _ _ t in
            let same : s ≡ p = omega arith in
            subst (λ z. number_in (numbered R p x) z ≡ f (name_in (numbered R p x) z)) (sym same)
            (numbered_number l ∙ e ∙ ap f (sym (name p (omega arith))))
