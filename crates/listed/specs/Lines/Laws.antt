-- Where the lines of a list stand among its bytes.
--
--   line_within       a line ends within the bytes;  line_ends: also one that begins at a byte
--   line_stops, line_goes_on      at a line feed the line ends, and any other byte is of it;  line_done: and so it does at the end
--   line_first        a line ends at the first line feed, or at the end of the bytes;  line_found: the same by where that stands, if it does
--   lines_first       the first line, and the lines behind its line feed;  lines_done: at the end there is none
--   line_spelled      a line is spelled where it begins;  line_fits: within the bytes
--   no_lines          a list without lines has no bytes
--
-- Assumes nothing.
use Prim.Native.Nat.{ℕ, zero, suc, ◌+◌, ◌≤◌, ◌<◌}
use Rattle.std.proofs.Common.{add-one, arith, sym, ◌∙◌, length-drop, drop_of_length-le, drop-cons, drop-drop, length-take-le, eq-eqb, ne_eqb}
use Rattle.std.specs.Prelude.{◌≡◌, refl, Bool, true, false, List, [], ◌∷◌, eqb, length, get_or, take, drop}
use Rattle.std.specs.List.{position, position_or_len}
use Rattle.std.specs.Option.{unwrap_or}
use Rattle.std.proofs.Common.{Option}
use Rattle.std.proofs.Math.Bool.{cond}
use Rattle.std.proofs.Math.Path.{ap}
use Rattle.std.proofs.lemmas.List.Recursion.{is_position_or_len}
use Rattle.choice.specs.When.{when, when_true, when_false}
use Rattle.listed.specs.Lines.{line_feed, lines_of, onto, line_length, line_at, start_of}

pub line_within : (t : List ℕ) → line_length t ≤ length t
unfolding line_length when
line_within [] = omega arith
line_within (b ∷ t) = go (eqb b line_feed) (line_within t)
  where
    go : (x : Bool) → line_length t ≤ length t → when x 0 (suc (line_length t)) ≤ suc (length t)
    go true l = omega arith
    go false l = omega arith

pub line_ends : (t : List ℕ) (i : ℕ) → i ≤ length t → i + line_length (drop i t) ≤ length t
line_ends t i l = omega (arith, line_within (drop i t), length-drop i t)

pub line_first : (t : List ℕ) → line_length t ≡ position_or_len (λ b. eqb b line_feed) t
unfolding line_length when
line_first t = is_position_or_len line_length (λ b. eqb b line_feed) refl (λ b u. go (eqb b line_feed) (line_length u)) t
  where
    go : (x : Bool) (n : ℕ) → when x 0 (suc n) ≡ cond x 0 (1 + n)
    go true n = refl
    go false n = omega arith

-- where the first line feed stands among the bytes t, if there is one
pub line_found : (t : List ℕ) (r : Option ℕ) → r ≡ position (λ b. eqb b line_feed) t → unwrap_or r (length t) ≡ line_length t
line_found t r e = grind (arith, line_first t, line_within t)

module _ (t : List ℕ) (i : ℕ) where
  pub line_stops : i < length t → get_or t i 0 ≡ line_feed → line_length (drop i t) ≡ 0
  unfolding line_length
  line_stops l e = ap line_length (drop-cons t i 0 l) ∙ when_true _ _ _ (eq-eqb _ _ e)

  pub line_goes_on : i < length t → (get_or t i 0 ≡ line_feed → ⊥) → line_length (drop i t) ≡ suc (line_length (drop (i + 1) t))
  unfolding line_length
  line_goes_on l e = ap line_length (drop-cons t i 0 l) ∙ when_false _ _ _ (ne_eqb _ _ e) ∙ rw (add-one i)

  pub line_done : length t ≤ i → line_length (drop i t) ≡ 0
  unfolding line_length
  line_done l = ap line_length (drop_of_length-le t l)

  pub lines_done : length t ≤ i → lines_of (drop i t) ≡ []
  unfolding lines_of
  lines_done l = ap lines_of (drop_of_length-le t l)

first_of : (b : ℕ) (t : List ℕ) → lines_of (b ∷ t) ≡ take (line_length (b ∷ t)) (b ∷ t) ∷ lines_of (drop (suc (line_length (b ∷ t))) (b ∷ t))
unfolding lines_of line_length when onto
first_of b [] = go (eqb b line_feed)
  where
    go : (x : Bool) → when x ([] ∷ []) (onto b []) ≡ take (when x 0 1) (b ∷ []) ∷ lines_of (drop (suc (when x 0 1)) (b ∷ []))
    go true = refl
    go false = refl
first_of b (c ∷ t) = go (eqb b line_feed) (first_of c t)
  where
    s : List ℕ
    s = c ∷ t

    go :
        (x : Bool) → lines_of s ≡ take (line_length s) s ∷ lines_of (drop (suc (line_length s)) s) →
        when x ([] ∷ lines_of s) (onto b (lines_of s))
        ≡ take (when x 0 (suc (line_length s))) (b ∷ s) ∷ lines_of (drop (suc (when x 0 (suc (line_length s)))) (b ∷ s))
    go true e = refl
    go false e = ap (onto b) e

-- the line that begins at byte i, which is not the end
pub lines_first :
    (t : List ℕ) (i : ℕ) → i < length t →
    lines_of (drop i t) ≡ take (line_length (drop i t)) (drop i t) ∷ lines_of (drop (i + line_length (drop i t) + 1) t)
lines_first t i l =
    let n = line_length (drop i t) in
    let next : i + suc n ≡ i + n + 1 = omega arith in
    ap lines_of (drop-cons t i 0 l) ∙ first_of (get_or t i 0) (drop (suc i) t)
    ∙ ap (λ s. take (line_length s) s ∷ lines_of (drop (suc (line_length s)) s)) (sym (drop-cons t i 0 l))
    ∙ ap (λ s. take n (drop i t) ∷ lines_of s) (drop-drop (suc n) i t ∙ ap (λ k. drop k t) next)

-- a line is as many bytes as stand before its line feed
line_long : (t : List ℕ) → length (take (line_length t) t) ≡ line_length t
line_long t = length-take-le (line_length t) t (line_within t)

-- one line of the rest is one line more of the whole
module _ (t : List ℕ) (k : ℕ) (some : 0 < length t) where
  abbrev rest : List ℕ
  rest = drop (line_length t + 1) t

  lines_are : lines_of t ≡ take (line_length t) t ∷ lines_of rest
  lines_are =
      lines_first t 0 some
      ∙ ap (λ n. take (line_length t) t ∷ lines_of (drop n t)) (let e : 0 + line_length t + 1 ≡ line_length t + 1 = omega arith in e)

  start_next : start_of (lines_of t) (suc k) ≡ line_length t + 1 + start_of (lines_of rest) k
  unfolding start_of
  start_next =
      ap (λ ls. start_of ls (suc k)) lines_are ∙ ap (λ n. suc n + start_of (lines_of rest) k) (line_long t)
      ∙ ap (λ n. n + start_of (lines_of rest) k) (sym (add-one (line_length t)))

  line_next : line_at (lines_of t) (suc k) ≡ line_at (lines_of rest) k
  line_next = ap (λ ls. line_at ls (suc k)) lines_are

  fewer : suc k < length (lines_of t) → k < length (lines_of rest)
  fewer there = omega (arith, ap length lines_are)

-- a list with a line has a byte
some_byte : (t : List ℕ) (k : ℕ) → k < length (lines_of t) → 0 < length t
unfolding lines_of
some_byte [] k l = absurd (omega arith)
some_byte (b ∷ t) k l = omega arith

pub line_fits : (t : List ℕ) (k : ℕ) → k < length (lines_of t) → start_of (lines_of t) k + length (line_at (lines_of t) k) ≤ length t
unfolding start_of
line_fits t zero there =
    let some = some_byte t zero there in
    omega (arith, ap (λ ls. length (line_at ls 0)) (lines_are t zero some), line_long t, line_within t)
line_fits t (suc k) there =
    let some = some_byte t (suc k) there in
    let more = fewer t k some there in
    omega (
      arith,
      line_fits (rest t k some) k more,
      some_byte (rest t k some) k more,
      start_next t k some,
      ap length (line_next t k some),
      length-drop (line_length t + 1) t,
      line_within t,
    )

pub line_spelled :
    (t : List ℕ) (k : ℕ) → k < length (lines_of t) →
    take (length (line_at (lines_of t) k)) (drop (start_of (lines_of t) k) t) ≡ line_at (lines_of t) k
unfolding start_of
line_spelled t zero there =
    let some = some_byte t zero there in
    let first : line_at (lines_of t) 0 ≡ take (line_length t) t = ap (λ ls. line_at ls 0) (lines_are t zero some) in
    ap (λ n. take n t) (ap length first ∙ line_long t) ∙ sym first
line_spelled t (suc k) there =
    let some = some_byte t (suc k) there in
    let s = rest t k some in
    let same = line_next t k some in
    ap (λ line. take (length line) (drop (start_of (lines_of t) (suc k)) t)) same
    ∙ ap (λ n. take (length (line_at (lines_of s) k)) (drop n t)) (start_next t k some)
    ∙ ap (take (length (line_at (lines_of s) k))) (sym (drop-drop (start_of (lines_of s) k) (line_length t + 1) t))
    ∙ line_spelled s k (fewer t k some there) ∙ sym same

pub no_lines : (t : List ℕ) → lines_of t ≡ [] → t ≡ []
no_lines [] e = refl
no_lines (b ∷ t) e = absurd (omega (arith, ap length e, ap length (first_of b t)))
