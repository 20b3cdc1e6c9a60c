-- One turn of the loop that links the places, over plain lists: in the words y the first `left` places of a list are in no chain yet, and the last
-- of them is put into its own. The words were x.
--
--   Chaining         what holds then: the invariant
--   entry_within     that place has its two words in y;  entry_fits: and they say what stands in the list
--   bucket_small, linked_small      its bucket and its new link are small numbers;  bucket_within: the bucket's head is in y
--   turn             what the turn makes
--   linking          the laws that close the bounds of the turn
--
-- Assumes nothing.
use Prim.Native.Nat.{ℕ, suc, ◌+◌, ◌-◌, ◌*◌, ◌/◌, ◌≤◌, ◌<◌}
use native.Mathlib.Nat.{add_comm}
use native.Mathlib.Numerals.{add-one}
use native.Mathlib.Omega.{arith}
use mathlib.Core.Path.{◌≡◌, sym, ap, ap₂, ◌∙◌}
use mathlib.Core.List.{List}
use lib.ListN.{length, get_or, set, take, drop, length-set, length-drop}
use Rattle.choice.specs.Count.{down}
use Rattle.listed.specs.Lines.{lines_of, line_at, start_of}
use Rattle.listed.specs.Lines.Laws.{line_fits, line_spelled}
use Rattle.spelling.specs.Bucket.{buckets, bucket_of}
use Rattle.spelling.specs.Bucket.Laws.{buckets_is, bucket_below}
use Rattle.chains.specs.Index.{first_in, link_of, partly, spelling_at, EntryFits, Ready}
use Rattle.chains.proofs.Index.Laws.{first_below, next}
use Rattle.chains.proofs.Index.Parts.{head_at, place_from, place_laid, partly_linked}
use Rattle.chains.proofs.Index.Room.{ready_words, ready_few, ready_short}

abbrev entry : ℕ → ℕ
entry left = 65536 + 2 * (left - 1)

pub record Chaining (names x y : List ℕ) (left : ℕ) : Type 0 where
  pub long : length y ≡ length x
  pub most : left ≤ length (lines_of names)
  pub words : y ≡ partly (lines_of names) left x

module _ {names x : List ℕ} (ready : Ready names x) {y : List ℕ} {left : ℕ} (s : Chaining names x y left) (some : 0 < left) where
  there : left - 1 < length (lines_of names)
  there = omega (arith, s.most)

  from_is : get_or y (entry left) 0 ≡ start_of (lines_of names) (left - 1)
  from_is = ap₂ (λ t n. get_or t (n + 2 * (left - 1)) 0) s.words (sym buckets_is) ∙ place_from (lines_of names) x left (left - 1) there

  link_is : get_or y (entry left + 1) 0 ≡ link_of 0 (length (line_at (lines_of names) (left - 1)))
  link_is =
      ap₂ (λ t n. get_or t (n + 2 * (left - 1) + 1) 0) s.words (sym buckets_is)
      ∙ place_laid (lines_of names) x left (left - 1) (omega arith) there

  bytes_are : get_or y (entry left + 1) 0 / 65536 ≡ length (line_at (lines_of names) (left - 1))
  bytes_are = omega (arith, link_is)

  pub entry_within : entry left + 1 < length y
  entry_within = omega (arith, s.long, s.most, ready_words ready, ready_few ready)

  pub entry_fits : EntryFits names y (entry left)
  entry_fits = record { there = entry_within; within = omega (arith, from_is, bytes_are, line_fits names (left - 1) there) }

  spelling_is : spelling_at names y (entry left) ≡ line_at (lines_of names) (left - 1)
  unfolding spelling_at
  spelling_is = ap₂ (λ n i. take n (drop i names)) bytes_are from_is ∙ line_spelled names (left - 1) there

  link_small : get_or y (entry left + 1) 0 ≤ 4194304
  link_small = omega (arith, link_is, ready_short ready (left - 1) there)

  module _ {b : ℕ} (told : b ≡ bucket_of (spelling_at names y (entry left))) where
    is_b : b ≡ bucket_of (line_at (lines_of names) (left - 1))
    is_b = told ∙ ap bucket_of spelling_is

    pub bucket_small : b < 65536
    bucket_small = omega (arith, is_b, bucket_below (line_at (lines_of names) (left - 1)), buckets_is)

    pub bucket_within : b < length y
    bucket_within = omega (arith, bucket_small, s.long, ready_words ready)

    head_is : get_or y b 0 ≡ first_in b (suc left) (drop left (lines_of names))
    head_is = ap (λ t. get_or t b 0) s.words ∙ head_at (lines_of names) x left b (omega (arith, bucket_small, buckets_is))

    head_small : get_or y b 0 ≤ 65533
    head_small =
        omega (
          arith,
          s.most,
          head_is,
          first_below b (suc left) (drop left (lines_of names)) (omega arith),
          length-drop left (lines_of names),
          ready_few ready,
        )

    pub linked_small : get_or y (entry left + 1) 0 + get_or y b 0 < 4294967296
    linked_small = omega (arith, link_small, head_small)

    linked_is :
        get_or y (entry left + 1) 0 + get_or y b 0
        ≡ link_of (next (suc (suc (left - 1))) (lines_of names) (left - 1)) (length (line_at (lines_of names) (left - 1)))
    linked_is =
        add_comm (get_or y (entry left + 1) 0) (get_or y b 0)
        ∙ ap₂ ◌+◌ (head_is ∙ ap₂ (λ h k. first_in h (suc k) (drop k (lines_of names))) is_b (down left some)) link_is ∙ omega arith

    pub turn : Chaining names x (set (set y (entry left + 1) (get_or y (entry left + 1) 0 + get_or y b 0)) b (left - 1 + 1)) (left - 1)
    turn =
        let ls = lines_of names in
        let k = left - 1 in
        let v = get_or y (entry left + 1) 0 + get_or y b 0 in
        record {
          long = simp length-set s.long;
          most = omega (arith, there);
          words =
              ap₂ (λ t n. set (set t (n + 2 * k + 1) v) b (k + 1)) (s.words ∙ ap (λ n. partly ls n x) (down left some)) (sym buckets_is)
              ∙ ap (λ n. set (set (partly ls (suc k) x) (buckets + 2 * k + 1) v) b n) (add-one k)
              ∙ partly_linked ls x k there b is_b v linked_is;
        }

pub ruleset linking = (length-set, ready_few, ready_words, entry_fits, bucket_small, bucket_within, linked_small)
