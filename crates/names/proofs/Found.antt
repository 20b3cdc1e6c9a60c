-- THE POINT OF AN INDEX: in the index that is built of a list, whatever stood in its words before, every word has the number that is its first place in the
-- list, or 65,534.
--
--   fits_line        a place of the index fits a word exactly where the list spells it;  next_line: its next place is that of its bucket
--   number_first     THE THEOREM
--
-- Assumes nothing.
use Rattle.std.specs.Prelude.{ℕ, suc, ◌+◌, ◌-◌, ◌*◌, ◌/◌, ◌≤◌, ◌<◌, ◌≡◌, Bool, true, false, ◌&&◌, length, drop}
use Rattle.std.proofs.Common.{arith, ◌∙◌, length-drop, drop-cons}
use Rattle.std.proofs.Math.Path.{refl, sym, ap, ap₂}
use mathlib.Core.List.{List, [], ◌∷◌}
use Rattle.std.proofs.Math.Dec.{eqb}
use Rattle.std.proofs.Math.ListN.{get_or}
use borrow.Author.Tests.{eqb-true, eqb-false, le-leb}
use Rattle.choice.specs.When.{when, when_false, when_known}
use Rattle.xml.specs.Bounds.{list_limit}
use Rattle.xml.proofs.Bounds.Laws.{list_limit_is}
use Rattle.xml.specs.Grammar.{same_name}
use Rattle.listed.specs.Lines.{lines_of, line_at, start_of}
use Rattle.listed.specs.Lines.Laws.{line_fits, line_spelled}
use Rattle.spelling.specs.Bucket.{buckets, bucket_of}
use Rattle.spelling.specs.Bucket.Laws.{bucket_below}
use Rattle.spelling.specs.Same.{same_not}
use Rattle.chains.specs.Index.{first_in, link_of, partly, built, Ready}
use Rattle.chains.proofs.Index.Laws.{first_below, next}
use Rattle.chains.proofs.Index.Parts.{head_at, place_from, place_link}
use Rattle.chains.proofs.Index.Room.{ready_few}
use Rattle.names.specs.Number.{entry_of, spelled_at, fits_at, next_of, walked, number_of}
use Rattle.names.specs.Number.Laws.{walk_none, walk_here, walk_on}
use Rattle.names.specs.First.{first_from, first_place}

-- one that is as long is compared, and no other is the same
length_first : (l w : List ℕ) → (eqb (length l) (length w) && same_name l w) ≡ same_name l w
length_first l w = go (eqb (length l) (length w)) refl
  where
    go : (t : Bool) → eqb (length l) (length w) ≡ t → (t && same_name l w) ≡ same_name l w
    go true e = refl
    go false e = sym (same_not l w (λ z. eqb-false _ _ e (ap length z)))

pred_suc : (k : ℕ) → suc k - 1 ≡ k
pred_suc k = omega arith

module _ (names old w : List ℕ) (ready : Ready names old) where
  abbrev lines : List (List ℕ)
  lines = lines_of names

  abbrev index : List ℕ
  index = built names old

  module _ (k : ℕ) (there : k < length lines) where
    from_is : get_or index (entry_of (suc k)) 0 ≡ start_of lines k
    unfolding built
    from_is = ap (λ j. get_or (partly lines 0 old) (buckets + 2 * j) 0) (pred_suc k) ∙ place_from lines old 0 k there

    link_is : get_or index (entry_of (suc k) + 1) 0 ≡ link_of (next (suc (suc k)) lines k) (length (line_at lines k))
    unfolding built
    link_is = ap (λ j. get_or (partly lines 0 old) (buckets + 2 * j + 1) 0) (pred_suc k) ∙ place_link lines old 0 k (omega arith) there

    next_small : next (suc (suc k)) lines k < 65536
    next_small =
        omega (
          arith,
          first_below (bucket_of (line_at lines k)) (suc (suc k)) (drop (suc k) lines) (omega arith),
          length-drop (suc k) lines,
          ready_few ready,
        )

    next_line : next_of index (suc k) ≡ next (suc (suc k)) lines k
    unfolding next_of
    next_line = omega (arith, link_is, next_small)

    bytes_are : get_or index (entry_of (suc k) + 1) 0 / 65536 ≡ length (line_at lines k)
    bytes_are = omega (arith, link_is, next_small)

    fits_line : fits_at names index w (suc k) ≡ same_name (line_at lines k) w
    unfolding fits_at spelled_at
    fits_line =
        let line = line_at lines k in
        ap₂ (λ from n. spelled_at names from n w) from_is bytes_are
        ∙ ap₂ (λ t part. eqb (length line) (length w) && (t && same_name part w)) (le-leb _ _ (line_fits names k there)) (line_spelled names k there)
        ∙ length_first line w

  -- a line, and those behind it
  module _ (l : List ℕ) (ls : List (List ℕ)) (k : ℕ) (e : l ∷ ls ≡ drop k lines) where
    there : k < length lines
    there = omega (arith, ap length e, length-drop k lines)

    both : l ∷ ls ≡ line_at lines k ∷ drop (suc k) lines
    both = e ∙ drop-cons lines k [] there

    is_line : line_at lines k ≡ l
    is_line = cc both

    is_rest : ls ≡ drop (suc k) lines
    is_rest = cc both

  -- if what is found among the lines behind it is their first place, so it is with the line
  module _ (l : List ℕ) (ls : List (List ℕ)) (k n : ℕ) (e : l ∷ ls ≡ drop k lines) (enough : suc (length ls) ≤ n)
      (rest : (m : ℕ) → length ls ≤ m → walked names index w m (first_in (bucket_of w) (suc (suc k)) ls) ≡ first_from (suc (suc k)) ls w) where
    here : k < length lines
    here = there l ls k e

    fits_is : fits_at names index w (suc k) ≡ same_name l w
    fits_is = fits_line k here ∙ ap (λ z. same_name z w) (is_line l ls k e)

    next_is : next_of index (suc k) ≡ first_in (bucket_of l) (suc (suc k)) ls
    next_is = next_line k here ∙ ap₂ (λ z r. first_in (bucket_of z) (suc (suc k)) r) (is_line l ls k e) (sym (is_rest l ls k e))

    low : 1 ≤ suc k
    low = omega arith

    high : suc k ≤ list_limit
    high = omega (arith, here, ready_few ready, list_limit_is)

    -- a place of the word's bucket
    in_bucket : bucket_of l ≡ bucket_of w → walked names index w n (suc k) ≡ when (same_name l w) (suc k) (first_from (suc (suc k)) ls w)
    in_bucket b =
        when_known (λ p. walked names index w n (suc k) ≡ p) (same_name l w) _ _
        (λ t. walk_here names index w n (suc k) (omega arith) low high (fits_is ∙ t))
        (λ t.
        walk_on names index w n (suc k) (omega arith) low high (fits_is ∙ t)
        ∙ ap (walked names index w (n - 1)) (next_is ∙ ap (λ h. first_in h (suc (suc k)) ls) b) ∙ rest (n - 1) (omega arith))

    one_line : walked names index w n (first_in (bucket_of w) (suc k) (l ∷ ls)) ≡ first_from (suc k) (l ∷ ls) w
    unfolding first_in first_from
    one_line =
        when_known (λ p. walked names index w n p ≡ when (same_name l w) (suc k) (first_from (suc (suc k)) ls w)) (eqb (bucket_of l) (bucket_of w)) _ _
        (λ t. in_bucket (eqb-true _ _ t))
        (λ t. rest n (omega arith) ∙ sym (when_false _ _ _ (same_not l w (λ z. eqb-false _ _ t (ap bucket_of z)))))

  walk_first :
      (ls : List (List ℕ)) (k n : ℕ) → ls ≡ drop k lines → length ls ≤ n →
      walked names index w n (first_in (bucket_of w) (suc k) ls) ≡ first_from (suc k) ls w
  unfolding first_in first_from
  walk_first [] k n e l = walk_none names index w n 0 refl
  walk_first (line ∷ ls) k n e l =
      one_line line ls k n e l (λ m h. walk_first ls (suc k) m (is_rest line ls k e) h)

  head_is : get_or index (bucket_of w) 0 ≡ first_in (bucket_of w) 1 lines
  unfolding built
  head_is = head_at lines old 0 (bucket_of w) (bucket_below w)

  pub number_first : number_of names index w ≡ first_place lines w
  unfolding number_of first_place
  number_first =
      ap (walked names index w list_limit) head_is ∙ walk_first lines 0 list_limit refl (omega (arith, ready_few ready, list_limit_is))
