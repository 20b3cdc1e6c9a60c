-- How far the bytes with a mark go, from each byte on.
--
--   unmarked, is_marked          a byte without the mark, and one with it, as the code tests it
--   span_on, span_stop, span_end      at a byte with the mark, at one without, and at the end of the text
--
-- Assumes nothing.
use Prim.Native.Nat.{ℕ, suc, ◌+◌, ◌≤◌, ◌<◌}
use native.Mathlib.Omega.{arith}
use Rattle.std.specs.Prelude.{◌≡◌, true, false, List, length, get_or, drop}
use Rattle.std.proofs.Common.{sym, ◌∙◌, drop_of_length-le, drop-cons, eq-eqb, ne_eqb}
use Rattle.std.proofs.Math.Path.{ap}
use Rattle.std.proofs.Math.Bool.{not}
use Rattle.std.specs.Int.Bits.{bit_and}
use Rattle.choice.specs.When.{when_true, when_false}
use Rattle.chars.specs.Marks.{marked, span}

module _ (marks : List ℕ) (b mark : ℕ) where
  pub unmarked : bit_and (get_or marks b 0) mark ≡ 0 → marked marks b mark ≡ false
  unfolding marked
  unmarked e = ap not (eq-eqb _ 0 e)

  pub is_marked : (bit_and (get_or marks b 0) mark ≡ 0 → ⊥) → marked marks b mark ≡ true
  unfolding marked
  is_marked f = ap not (ne_eqb _ 0 f)

module _ (marks : List ℕ) (mark : ℕ) (t : List ℕ) (i : ℕ) where
  pub span_on : i < length t → marked marks (get_or t i 0) mark ≡ true → i + span marks mark (drop i t) ≡ (i + 1) + span marks mark (drop (i + 1) t)
  unfolding span
  span_on l m =
      let e : i + 1 ≡ suc i = omega arith in
      ap (λ u. i + span marks mark u) (drop-cons t i 0 l)
      ∙ ap (λ n. i + n) (when_true _ (suc (span marks mark (drop (suc i) t))) 0 m)
      ∙ (let f : i + suc (span marks mark (drop (suc i) t)) ≡ suc i + span marks mark (drop (suc i) t) = omega arith in f)
      ∙ ap (λ k. k + span marks mark (drop k t)) (sym e)

  pub span_stop : i < length t → marked marks (get_or t i 0) mark ≡ false → i + span marks mark (drop i t) ≡ i
  unfolding span
  span_stop l m =
      ap (λ u. i + span marks mark u) (drop-cons t i 0 l)
      ∙ ap (λ n. i + n) (when_false _ (suc (span marks mark (drop (suc i) t))) 0 m)
      ∙ (let f : i + 0 ≡ i = omega arith in f)

  pub span_end : length t ≤ i → i + span marks mark (drop i t) ≡ i
  unfolding span
  span_end l = ap (λ u. i + span marks mark u) (drop_of_length-le t l) ∙ (let f : i + 0 ≡ i = omega arith in f)
