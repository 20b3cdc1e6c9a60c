-- One turn of the loop over the lines, over plain numbers: line n begins at byte `at` and ends at byte `end`, and f is its fault.
--
--   turn_stops      a line at fault decides the answer
--   turn_goes_on    a line that is fine leaves it to the lines after it
--   turns_done      at the end the list is fine
--   few_enough      a line that is fine is not one too many
--
-- Assumes nothing.
use Prim.Native.Nat.{ℕ, suc, ◌+◌, ◌-◌, ◌≤◌, ◌<◌}
use native.Mathlib.Numerals.{add-one}
use native.Mathlib.Omega.{arith}
use mathlib.Core.Path.{◌≡◌, sym, ap, ◌∙◌}
use mathlib.Core.List.{List, ◌∷◌}
use lib.Dec.{eqb, ltb}
use lib.ListN.{length, take, drop}
use borrow.Author.Tests.{eq-eqb, ne_eqb, ltb-false}
use Rattle.choice.specs.When.{when, when_true, when_false, when_known}
use Rattle.xml.specs.Bounds.{list_limit}
use Rattle.listed.specs.Lines.{lines_of, line_length}
use Rattle.listed.specs.Lines.Laws.{lines_first, lines_done}
use Rattle.listed.specs.Listed.{fault_of, fine, refused, answer_from}

module _ (names : List ℕ) (at end n f : ℕ) (there : at < length names) (ends : end ≡ at + line_length (drop at names))
    (told : f ≡ fault_of n (take (end - at) (drop at names))) where
  line : List ℕ
  line = take (line_length (drop at names)) (drop at names)

  is_line : fault_of n line ≡ f
  unfolding line
  is_line =
      let long : line_length (drop at names) ≡ end - at = omega arith in
      ap (λ k. fault_of n (take k (drop at names))) long ∙ sym told

  turn :
      answer_from n (lines_of (drop at names))
      ≡ when (eqb (fault_of n line) 0) (answer_from (suc n) (lines_of (drop (end + 1) names))) (refused (fault_of n line) n)
  unfolding line answer_from
  turn = ap (answer_from n) (lines_first names at there ∙ ap (λ k. line ∷ lines_of (drop (k + 1) names)) (sym ends))

  pub turn_stops : (f ≡ 0 → ⊥) → answer_from n (lines_of (drop at names)) ≡ refused f n
  turn_stops broken = turn ∙ when_false _ _ _ (ne_eqb _ _ (λ e. broken (sym is_line ∙ e))) ∙ ap (λ r. refused r n) is_line

  pub turn_goes_on : f ≡ 0 → answer_from n (lines_of (drop at names)) ≡ answer_from (n + 1) (lines_of (drop (end + 1) names))
  turn_goes_on kept = turn ∙ when_true _ _ _ (eq-eqb _ _ (is_line ∙ kept)) ∙ rw (add-one n)

pub turns_done : (names : List ℕ) (at n : ℕ) → length names ≤ at → answer_from n (lines_of (drop at names)) ≡ fine
unfolding answer_from
turns_done names at n l = ap (answer_from n) (lines_done names at l)

pub few_enough : (n : ℕ) (text : List ℕ) → fault_of n text ≡ 0 → n ≤ list_limit
unfolding fault_of
few_enough n text e = when_known (λ r. r ≡ 0 → n ≤ list_limit) (ltb list_limit n) _ _ (λ over z. absurd (omega arith)) (λ under z. ltb-false _ _ under) e
