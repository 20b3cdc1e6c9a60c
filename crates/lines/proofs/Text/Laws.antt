-- The program's lines.
--
--   lines_of_append      the lines of some nodes, and then those of others; lines_of_snoc: one line more at the end
--   length_line         a line is one byte longer than the numeral
--   line_short          a line has at most 11 bytes for a number under 10 ^ 10, 21 for one under 10 ^ 20
--   lines_short         so many lines have at most 11 bytes each
--   put_next            one line more is put
--   refusal_short       "refused R at E" has at most 35 bytes
--   put_end, put_refused, put_refused_at, put_refused_for      a last line is put, part by part
--   put_refusal         "refused R at E" is put, part by part;  put_refusal_each: each word and each number by itself
--
-- Assumes nothing.
use Rattle.std.specs.Prelude.{ℕ, zero, suc, ◌+◌, ◌*◌, ◌^◌, ◌≤◌, ◌<◌, ◌≡◌, refl, List, [], ◌∷◌, ◌++◌, length}
use Rattle.std.proofs.Common.{add-one, arith, sym, ap, ◌∙◌, append-nil, append_assoc, length-append}
use Rattle.meaning.specs.Record.{Bytes}
use Rattle.records.specs.Write.{node_at, nodes_in}
use Rattle.lines.specs.Decimal.{decimal}
use Rattle.lines.proofs.Decimal.Laws.{length_short}
use Rattle.lines.specs.Put.{Put}
use Rattle.lines.proofs.Put.Laws.{put_then}
use Rattle.lines.specs.Text.{line, lines_of, end_word, refused_word, at_word, reason_word, end_line, refused_line}
use Rattle.lines.specs.Text.{refusal_text, refused_at_line, refused_for_line}

pub lines_of_append : (ns ms : List ℕ) → lines_of (ns ++ ms) ≡ lines_of ns ++ lines_of ms
unfolding lines_of
lines_of_append [] ms = refl
lines_of_append (n ∷ ns) ms = ap (λ l. line n ++ l) (lines_of_append ns ms) ∙ sym (append_assoc (line n) (lines_of ns) (lines_of ms))

pub lines_of_snoc : (ns : List ℕ) (n : ℕ) → lines_of (ns ++ (n ∷ [])) ≡ lines_of ns ++ line n
unfolding lines_of
lines_of_snoc ns n = lines_of_append ns (n ∷ []) ∙ ap (λ l. lines_of ns ++ l) (append-nil (line n))

pub length_line : (n : ℕ) → length (line n) ≡ length (decimal n) + 1
length_line n = length-append (decimal n) (10 ∷ [])

pub line_short : (k n : ℕ) → n < 10 ^ suc k → length (line n) ≤ k + 2
line_short k n h = omega (arith, length_line n, length_short k n h)

pub refusal_short : (r e : ℕ) → r < 256 → e < 10 ^ 20 → length (refusal_text r e) ≤ 35
unfolding refusal_text
refusal_short r e h k =
    omega (
      arith,
      length_short 2 r (omega arith),
      length_short 19 e k,
      length-append refused_word (decimal r ++ (at_word ++ decimal e)),
      length-append (decimal r) (at_word ++ decimal e),
      length-append at_word (decimal e),
    )

node_at_bound : (bs : List ℕ) (i : ℕ) → Bytes bs → node_at bs i < 4294967296
node_at_bound bs i h = omega (arith, h (4 * i), h (4 * i + 1), h (4 * i + 2), h (4 * i + 3))

pub lines_short : (k : ℕ) (bs : List ℕ) → Bytes bs → length (lines_of (nodes_in k bs)) ≤ 11 * k
unfolding lines_of nodes_in
lines_short zero bs h = omega arith
lines_short (suc k) bs h =
    rw (lines_of_snoc, length-append)
    (omega (arith, lines_short k bs h, line_short 9 (node_at bs k) (omega (arith, node_at_bound bs k h))))

pub put_next : {l : List ℕ} {at : ℕ} {l' : List ℕ} {e : ℕ} {l'' : List ℕ} {r : ℕ} (bs : List ℕ) (i n : ℕ) →
    Put l at (lines_of (nodes_in i bs)) l' e → n ≡ node_at bs i → Put l' e (line n) l'' r → Put l at (lines_of (nodes_in (i + 1) bs)) l'' r
unfolding nodes_in
put_next bs i n p is q = rw (add-one i, lines_of_snoc, ← is) (put_then p q)

module _ {l l' l'' : List ℕ} {at e r : ℕ} where
  pub put_end : (n : ℕ) → Put l at end_word l' e → Put l' e (line n) l'' r → Put l at (end_line n) l'' r
  unfolding end_line
  put_end n p q = put_then p q

  -- n is the refusal's number as the code has it
  pub put_refused : (n k : ℕ) → n ≡ k → Put l at refused_word l' e → Put l' e (line n) l'' r → Put l at (refused_line k) l'' r
  unfolding refused_line
  put_refused n k is p q = rw (← is) (put_then p q)

  pub put_refusal_each :
      {m m' : List ℕ} {i j : ℕ} (n k x : ℕ) → n ≡ k →
      Put l at refused_word m i → Put m i (decimal n) m' j → Put m' j at_word l' e → Put l' e (decimal x) l'' r → Put l at (refusal_text k x) l'' r
  unfolding refusal_text
  put_refusal_each n k x is p q s t = rw (← is) (put_then p (put_then q (put_then s t)))

  pub put_refused_at : (k x : ℕ) → Put l at (refusal_text k x) l' e → Put l' e (10 ∷ []) l'' r → Put l at (refused_at_line k x) l'' r
  unfolding refused_at_line
  put_refused_at k x p q = put_then p q

  -- n is the reason as the code has it
  pub put_refused_for :
      {m : List ℕ} {i : ℕ} (k x n y : ℕ) → n ≡ y → Put l at (refusal_text k x) m i → Put m i reason_word l' e → Put l' e (line n) l'' r →
      Put l at (refused_for_line k x y) l'' r
  unfolding refused_for_line
  put_refused_for k x n y is p q s = rw (← is) (put_then p (put_then q s))

-- two words, each with its number
pub put_refusal :
    {l l' l'' : List ℕ} {at e r : ℕ} (k x : ℕ) → Put l at (refused_word ++ decimal k) l' e → Put l' e (at_word ++ decimal x) l'' r →
    Put l at (refusal_text k x) l'' r
unfolding refusal_text
put_refusal k x p q = rw (append_assoc refused_word (decimal k) (at_word ++ decimal x)) at (put_then p q)
