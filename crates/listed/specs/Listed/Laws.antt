-- Names and faults, step by step.
--
--   all_goes_on, all_stops, all_done       one byte more of a class, one that is not, and no byte left
--   name_begins       a line with bytes is a Name by its first byte and the others;  name_empty, name_none: one without is none
--   name_starts, name_wrong                the others decide, or the first byte begins no name
--
-- Assumes nothing.
use Rattle.std.specs.Prelude.{ℕ, ◌+◌, ◌≤◌, ◌<◌, ◌≡◌, refl, true, false, ◌&&◌, List, [], ◌∷◌, length, get_or, drop}
use Rattle.std.proofs.Common.{add-one, arith, ◌∙◌, drop_of_length-le, drop-cons}
use Rattle.std.proofs.Math.Path.{ap}
use Rattle.xml.specs.Class.{Class, in_class}
use Rattle.xml.specs.Chars.{name_start, name_char}
use Rattle.listed.specs.Listed.{all_in, is_name}

module _ (k : Class) (t : List ℕ) (i : ℕ) where
  all_next : i < length t → all_in k (drop i t) ≡ (in_class k (get_or t i 0) && all_in k (drop (i + 1) t))
  unfolding all_in
  all_next l = ap (all_in k) (drop-cons t i 0 l) ∙ rw (add-one i)

  pub all_goes_on : i < length t → in_class k (get_or t i 0) ≡ true → all_in k (drop i t) ≡ all_in k (drop (i + 1) t)
  all_goes_on l e = all_next l ∙ ap (λ x. x && all_in k (drop (i + 1) t)) e

  pub all_stops : i < length t → in_class k (get_or t i 0) ≡ false → all_in k (drop i t) ≡ false
  all_stops l e = all_next l ∙ ap (λ x. x && all_in k (drop (i + 1) t)) e

  pub all_done : length t ≤ i → all_in k (drop i t) ≡ true
  unfolding all_in
  all_done l = ap (all_in k) (drop_of_length-le t l)

pub name_begins : (line : List ℕ) → 0 < length line → is_name line ≡ (in_class name_start (get_or line 0 0) && all_in name_char (drop 1 line))
unfolding is_name
name_begins [] l = absurd (omega arith)
name_begins (b ∷ t) l = refl

pub name_empty : (line : List ℕ) → length line ≡ 0 → is_name line ≡ false
unfolding is_name
name_empty [] l = refl
name_empty (b ∷ t) l = absurd (omega arith)

-- the same as the code asks it
pub name_none : (line : List ℕ) → length line < 1 → false ≡ is_name line
unfolding is_name
name_none [] l = refl
name_none (b ∷ t) l = absurd (omega arith)

pub name_starts : (line : List ℕ) → 0 < length line → in_class name_start (get_or line 0 0) ≡ true → is_name line ≡ all_in name_char (drop 1 line)
name_starts line l e = name_begins line l ∙ ap (λ x. x && all_in name_char (drop 1 line)) e

pub name_wrong : (line : List ℕ) → 0 < length line → in_class name_start (get_or line 0 0) ≡ false → is_name line ≡ false
name_wrong line l e = name_begins line l ∙ ap (λ x. x && all_in name_char (drop 1 line)) e
