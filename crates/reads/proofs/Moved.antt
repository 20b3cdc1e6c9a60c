-- Bytes that move down in a text.
--
--   put_moved_down      the first bytes are those from further on, and the others are as they were
--   put_copied          so they are after the library's `copy_within`
--
-- Assumes nothing.
use Rattle.std.specs.Prelude.{ℕ, ◌+◌, ◌-◌, ◌≤◌, ◌<◌, ◌≡◌, List, ◌++◌, get_or, length, take, drop}
use Rattle.std.specs.List.{copy_within}
use Rattle.std.proofs.Common.{arith, sym, ap, ◌∙◌, length-drop, length-append, length-take-le}
use Rattle.std.proofs.lemmas.List.{places, same_lists}
use Rattle.std.proofs.lemmas.List.Edits.{sets-eq}
use Rattle.lines.specs.Put.{Put}

pub put_moved_down :
    {l l' : List ℕ} (from left : ℕ) → from + left ≤ length l → length l' ≡ length l →
    ((k d : ℕ) → k < left → get_or l' k d ≡ get_or l (from + k) d) →
    ((k d : ℕ) → left ≤ k → k < length l' → get_or l' k d ≡ get_or l k d) → Put l 0 (take left (drop from l)) l' left
put_moved_down {l} {l'} from left fits long moved same =
    let vs = take left (drop from l) in
    let rest = drop (0 + length vs) l in
    let many : length vs ≡ left = length-take-le left (drop from l) (omega (arith, length-drop from l)) in
    let all : length l' ≡ length (vs ++ rest) = omega (arith, many, long, length-append vs rest, length-drop (0 + length vs) l) in
    record {
      text = same_lists l' (vs ++ rest) all (λ k d h. grind (arith, places, moved k d, same k d, many)) ∙ sym (sets-eq vs l 0 (omega (arith, many)));
      end = omega (arith, many);
    }

pub put_copied :
    (l : List ℕ) (from end : ℕ) → from ≤ end → end ≤ length l →
    Put l 0 (take (end - from) (drop from l)) (copy_within l from end 0) (end - from)
put_copied l from end forward inside =
    let vs = take (end - from) (drop from l) in
    let many : length vs ≡ end - from = length-take-le (end - from) (drop from l) (omega (arith, length-drop from l)) in
    record {
      text = ap (λ (n : ℕ). vs ++ drop (0 + n) l) (sym many) ∙ sym (sets-eq vs l 0 (omega (arith, many)));
      end = omega (arith, many);
    }
