-- One turn of the loop that lays the places, over plain lists: of a list and of the words x `count` places are laid, in the words y, and the next line begins
-- at byte `at`.
--
--   Standing        what holds then: the invariant
--   lay_starts      nothing is laid yet
--   more            there is a further line, which ends at byte `end`;  short: it has few bytes;  place_within: its words are in y
--   turn            what the turn makes
--   lay_done        at the end every place is laid
--   laying          the laws that close the bounds of the turn
--
-- Assumes nothing.
use Prim.Native.Nat.{ℕ, suc, ◌+◌, ◌-◌, ◌*◌, ◌≤◌, ◌<◌}
use native.Mathlib.Nat.{add-zero}
use native.Mathlib.Numerals.{add-one}
use native.Mathlib.Omega.{arith}
use mathlib.Core.Path.{◌≡◌, refl, sym, ap, ap₂, ◌∙◌}
use mathlib.Core.List.{List, [], ◌∷◌, ◌++◌, append_assoc}
use lib.ListN.{length, set, take, drop, length-set, length-drop}
use lib.Seq.{sets, sets-eq, drop-cons, length-take-le}
use Rattle.listed.specs.Lines.{lines_of, line_length, line_at}
use Rattle.listed.specs.Lines.Laws.{line_within, line_ends, lines_first, lines_done}
use Rattle.spelling.specs.Bucket.{buckets}
use Rattle.spelling.specs.Bucket.Laws.{buckets_is}
use Rattle.chains.specs.Index.{link_of, entries, laid_in, Ready}
use Rattle.chains.proofs.Index.Laws.{entries_length}
use Rattle.chains.proofs.Index.Room.{ready_words, ready_few, ready_short, ready_room}

-- the two words of one line more
two_words :
    (y : List ℕ) (i at m : ℕ) (l : List ℕ) (D E : List (List ℕ)) → D ≡ l ∷ E →
    (j v n from : ℕ) → j ≡ suc i → v ≡ link_of 0 (length l) → n ≡ suc (suc i) → from ≡ at + length l + 1 →
    sets (set (set y i at) j v) n (entries (length E) from (suc m) E) ≡ sets y i (entries (length D) at m D)
unfolding entries
two_words y i at m l D E e j v n from is-j is-v is-n is-from =
    ap₂ (λ a b. sets (set (set y i at) a b) n (entries (length E) from (suc m) E)) is-j is-v
    ∙ ap₂ (λ a b. sets (set (set y i at) (suc i) (link_of 0 (length l))) a (entries (length E) b (suc m) E)) is-n is-from
    ∙ sym (ap (λ d. sets y i (entries (length d) at m d)) e)

-- the lines that are not laid yet
abbrev rest : List ℕ → ℕ → List (List ℕ)
rest names count = drop count (lines_of names)

-- the words of their places laid in y, behind those of the places that are
abbrev laid_from : List ℕ → List ℕ → ℕ → ℕ → List ℕ
laid_from names y count at = sets y (buckets + 2 * count) (entries (length (rest names count)) at (suc count) (rest names count))

pub record Standing (names x y : List ℕ) (count at : ℕ) : Type 0 where
  pub long : length y ≡ length x
  pub early : at ≤ 65 * count
  pub most : count ≤ length (lines_of names)
  pub lines : lines_of (drop at names) ≡ rest names count
  pub words : laid_from names y count at ≡ sets x buckets (entries (length (lines_of names)) 0 1 (lines_of names))

pub lay_starts : (names x : List ℕ) → Standing names x x 0 0
lay_starts names x =
    record {
      long = refl;
      early = omega arith;
      most = omega arith;
      lines = refl;
      words = ap (λ i. sets x i (entries (length (lines_of names)) 0 1 (lines_of names))) (add-zero buckets);
    }

module _ {names x : List ℕ} (ready : Ready names x) {y : List ℕ} {count at : ℕ} (s : Standing names x y count at) where
  module _ {end : ℕ} (there : at < length names) (ends : end ≡ at + line_length (drop at names)) where
    abbrev n : ℕ
    n = line_length (drop at names)

    pub more : count < length (lines_of names)
    more = omega (arith, ap length (lines_first names at there), ap length s.lines, length-drop count (lines_of names))

    pub place_within : 65536 + 2 * count + 1 < length y
    place_within = omega (arith, more, s.long, ready_few ready, ready_words ready)

    both : take n (drop at names) ∷ lines_of (drop (at + n + 1) names) ≡ line_at (lines_of names) count ∷ rest names (suc count)
    both = sym (lines_first names at there) ∙ s.lines ∙ drop-cons (lines_of names) count [] more

    bytes_are : end - at ≡ length (line_at (lines_of names) count)
    bytes_are =
        let first : take n (drop at names) ≡ line_at (lines_of names) count = cc both in
        omega (arith, ap length first, length-take-le n (drop at names) (line_within (drop at names)))

    pub short : end - at ≤ 64
    short = omega (arith, bytes_are, ready_short ready count more)

    abbrev y' : List ℕ
    y' = set (set y (65536 + 2 * count) at) (65536 + 2 * count + 1) (65536 * (end - at))

    rest_next : rest names count ≡ line_at (lines_of names) count ∷ rest names (count + 1)
    rest_next = drop-cons (lines_of names) count [] more ∙ ap (λ k. line_at (lines_of names) count ∷ rest names k) (sym (add-one count))

    words_next : laid_from names y' (count + 1) (end + 1) ≡ laid_from names y count at
    words_next =
        let E = rest names (count + 1) in
        ap (λ m. sets y' (buckets + 2 * (count + 1)) (entries (length E) (end + 1) (suc m) E)) (add-one count)
        ∙ two_words y (65536 + 2 * count) at (suc count) (line_at (lines_of names) count) (rest names count) E rest_next _ _ _ _
        (omega arith) (omega (arith, bytes_are)) (omega (arith, buckets_is)) (omega (arith, bytes_are))
        ∙ ap (λ b. sets y (b + 2 * count) (entries (length (rest names count)) at (suc count) (rest names count))) (sym buckets_is)

    lines_next : lines_of (drop (end + 1) names) ≡ rest names (count + 1)
    lines_next =
        let after : lines_of (drop (at + n + 1) names) ≡ rest names (suc count) = cc both in
        ap (λ k. lines_of (drop (k + 1) names)) ends ∙ after ∙ ap (rest names) (sym (add-one count))

    pub turn : Standing names x y' (count + 1) (end + 1)
    turn =
        record {
          long = simp length-set s.long;
          early = omega (arith, s.early, short);
          most = omega (arith, more);
          lines = lines_next;
          words = words_next ∙ s.words;
        }

  pub lay_done : length names ≤ at → (count ≡ length (lines_of names)) × (y ≡ laid_in names x)
  unfolding laid_in entries
  lay_done l =
      let none : rest names count ≡ [] = sym s.lines ∙ lines_done names at l in
      let E = entries (length (lines_of names)) 0 1 (lines_of names) in
      let long = entries_length (length (lines_of names)) 0 1 (lines_of names) in (
        omega (arith, ap length none, length-drop count (lines_of names), s.most),
        sym (ap (λ d. sets y (buckets + 2 * count) (entries (length d) at (suc count) d)) none) ∙ s.words
            ∙ sets-eq E x buckets (omega (arith, ready_room ready, long)) ∙ append_assoc (take buckets x) E _
            ∙ ap (λ k. take buckets x ++ (E ++ drop (buckets + k) x)) long,
      )

pub ruleset laying = (length-set, ready_few, ready_words, more, short, place_within, line_ends)
