-- The parts of an index: the heads, the places, and the words behind them.
--
--   partly_length      the index has as many words as before
--   head_at            the first word of a chain
--   place_from, place_link, place_laid      the two words of a place
--   partly_linked      one place more is put in front of its chain
--   partly_past        the words behind the places are as they were;  partly_again: and they are all that counts of those before
--   laid_cleared       empty buckets and the places in no chain yet
--
-- Assumes nothing.
use Rattle.std.specs.Prelude.{ℕ, suc, ◌+◌, ◌*◌, ◌≤◌, ◌<◌, ◌≡◌, refl, eqb, replicate}
use Rattle.std.proofs.Common.{zero-add, suc-add, arith, ◌∙◌, length-append, length-drop, drop-cons, drop-drop, drop_at, take_at, eq-eqb, ne_eqb}
use Rattle.std.proofs.Math.Path.{sym, ap, ap₂}
use mathlib.Core.List.{List, [], ◌∷◌, ◌++◌, append_assoc}
use Rattle.std.proofs.Math.ListN.{length, get_or, set, drop, get_or-append}
use Rattle.std.proofs.lemmas.List.{length-replicate, get_or-replicate}
use Rattle.std.proofs.Math.Seq.{drop-length, get_or-append-add, set-append_left}
use Rattle.choice.specs.When.{when, when_true, when_false}
use Rattle.words.specs.Rows.{rows_length, rows_at, rows_put, is_rows}
use Rattle.listed.specs.Lines.{lines_of, line_at, start_of}
use Rattle.spelling.specs.Bucket.{buckets, bucket_of}
use Rattle.spelling.specs.Bucket.Laws.{bucket_below}
use Rattle.chains.specs.Index.{first_in, link_of, entries, heads, partly, cleared, laid_in}
use Rattle.chains.proofs.Index.Laws.{entries_length, next, entry_from, entry_link, entry_laid, entries_linked}

set_append_add : (xs ys : List ℕ) (n a : ℕ) → set (xs ++ ys) (length xs + n) a ≡ xs ++ set ys n a
set_append_add [] ys n a = ap (λ k. set ys k a) (zero-add n)
set_append_add (x ∷ xs) ys n a = ap (λ k. set (x ∷ xs ++ ys) k a) (suc-add (length xs) n) ∙ ap (λ t. x ∷ t) (set_append_add xs ys n a)

module _ (ls : List (List ℕ)) (x : List ℕ) where
  heads_length : (k : ℕ) → length (heads k ls) ≡ buckets
  heads_length k = rows_length buckets (λ h. first_in h (suc k) (drop k ls))

  pub head_at : (k h : ℕ) → h < buckets → get_or (partly ls k x) h 0 ≡ first_in h (suc k) (drop k ls)
  unfolding partly
  head_at k h l =
      get_or-append (heads k ls) _ 0 h (omega (arith, heads_length k)) ∙ rows_at buckets (λ i. first_in i (suc k) (drop k ls)) 0 h l

  -- a word of a place
  in_places : (k j : ℕ) → j < 2 * length ls → get_or (partly ls k x) (buckets + j) 0 ≡ get_or (entries k 0 1 ls) j 0
  unfolding partly
  in_places k j l =
      ap (λ i. get_or (partly ls k x) i 0) (let e : buckets + j ≡ length (heads k ls) + j = omega (arith, heads_length k) in e)
      ∙ get_or-append-add (heads k ls) _ j 0 ∙ get_or-append (entries k 0 1 ls) _ 0 j (omega (arith, entries_length k 0 1 ls))

  pub place_from : (k i : ℕ) → i < length ls → get_or (partly ls k x) (buckets + 2 * i) 0 ≡ start_of ls i
  place_from k i l = in_places k (2 * i) (omega arith) ∙ entry_from k 0 1 i ls l ∙ zero-add (start_of ls i)

  pub place_link :
      (k i : ℕ) → k ≤ i → i < length ls → get_or (partly ls k x) (buckets + 2 * i + 1) 0 ≡ link_of (next (suc (suc i)) ls i) (length (line_at ls i))
  place_link k i g l =
      ap (λ j. get_or (partly ls k x) j 0) (let e : buckets + 2 * i + 1 ≡ buckets + (2 * i + 1) = omega arith in e)
      ∙ in_places k (2 * i + 1) (omega arith) ∙ entry_link k 0 1 i (suc (suc i)) ls (omega arith) g l

  pub place_laid : (k i : ℕ) → i < k → i < length ls → get_or (partly ls k x) (buckets + 2 * i + 1) 0 ≡ link_of 0 (length (line_at ls i))
  place_laid k i g l =
      ap (λ j. get_or (partly ls k x) j 0) (let e : buckets + 2 * i + 1 ≡ buckets + (2 * i + 1) = omega arith in e)
      ∙ in_places k (2 * i + 1) (omega arith) ∙ entry_laid k 0 1 i ls g l

  -- one place more: b is its bucket, and v its link

  module _ (k : ℕ) (there : k < length ls) (b : ℕ) (is_b : b ≡ bucket_of (line_at ls k)) where
    head_is : (h : ℕ) → first_in h (suc k) (drop k ls) ≡ when (eqb b h) (suc k) (first_in h (suc (suc k)) (drop (suc k) ls))
    unfolding first_in
    head_is h =
        ap (first_in h (suc k)) (drop-cons ls k [] there)
        ∙ ap (λ c. when (eqb c h) (suc k) (first_in h (suc (suc k)) (drop (suc k) ls))) (sym is_b)

    heads_linked : heads k ls ≡ set (heads (suc k) ls) b (suc k)
    heads_linked =
        rows_put buckets (λ h. first_in h (suc (suc k)) (drop (suc k) ls)) (λ h. first_in h (suc k) (drop k ls)) b (suc k)
        (head_is b ∙ when_true _ _ _ (eq-eqb b b refl))
        (λ h other. head_is h ∙ when_false _ _ _ (ne_eqb b h (λ e. other (sym e))))

    places_linked :
        (v : ℕ) → v ≡ link_of (next (suc (suc k)) ls k) (length (line_at ls k)) →
        set (partly ls (suc k) x) (buckets + 2 * k + 1) v ≡ heads (suc k) ls ++ (entries k 0 1 ls ++ drop (buckets + 2 * length ls) x)
    unfolding partly
    places_linked v is-v =
        let H = heads (suc k) ls in
        let E = entries (suc k) 0 1 ls in
        let T = drop (buckets + 2 * length ls) x in
        ap₂ (λ j u. set (H ++ (E ++ T)) j u) (let e : buckets + 2 * k + 1 ≡ length H + (2 * k + 1) = omega (arith, heads_length (suc k)) in e) is-v
        ∙ set_append_add H (E ++ T) (2 * k + 1) _
        ∙ ap (λ t. H ++ t) (set-append_left E T (2 * k + 1) _ (omega (arith, entries_length (suc k) 0 1 ls)))
        ∙ ap (λ t. H ++ (t ++ T)) (entries_linked k 0 1 (suc (suc k)) ls (omega arith) there)

    pub partly_linked :
        (v : ℕ) → v ≡ link_of (next (suc (suc k)) ls k) (length (line_at ls k)) →
        set (set (partly ls (suc k) x) (buckets + 2 * k + 1) v) b (suc k) ≡ partly ls k x
    unfolding partly
    partly_linked v is-v =
        let T = entries k 0 1 ls ++ drop (buckets + 2 * length ls) x in
        ap (λ t. set t b (suc k)) (places_linked v is-v)
        ∙ set-append_left (heads (suc k) ls) T b (suc k) (omega (arith, heads_length (suc k), bucket_below (line_at ls k)))
        ∙ ap (λ t. t ++ T) (sym heads_linked)

  -- the words behind the places

  front_length : (k : ℕ) → length (heads k ls ++ entries k 0 1 ls) ≡ buckets + 2 * length ls
  front_length k = length-append (heads k ls) (entries k 0 1 ls) ∙ ap₂ ◌+◌ (heads_length k) (entries_length k 0 1 ls)

  partly_front : (k : ℕ) → partly ls k x ≡ (heads k ls ++ entries k 0 1 ls) ++ drop (buckets + 2 * length ls) x
  unfolding partly
  partly_front k = sym (append_assoc (heads k ls) (entries k 0 1 ls) (drop (buckets + 2 * length ls) x))

  pub partly_length : (k : ℕ) → buckets + 2 * length ls ≤ length x → length (partly ls k x) ≡ length x
  partly_length k l =
      ap length (partly_front k) ∙ length-append (heads k ls ++ entries k 0 1 ls) _
      ∙ omega (arith, front_length k, length-drop (buckets + 2 * length ls) x)

  pub partly_past : (k : ℕ) → drop (buckets + 2 * length ls) (partly ls k x) ≡ drop (buckets + 2 * length ls) x
  partly_past k =
      ap (drop (buckets + 2 * length ls)) (partly_front k) ∙ drop_at (heads k ls ++ entries k 0 1 ls) _ _ (front_length k)

  pub partly_again : (k j : ℕ) → partly ls k (partly ls j x) ≡ partly ls k x
  unfolding partly
  partly_again k j = ap (λ t. heads k ls ++ (entries k 0 1 ls ++ t)) (partly_past j)

no_heads : (ls : List (List ℕ)) → replicate buckets 0 ≡ heads (length ls) ls
unfolding first_in
no_heads ls =
    is_rows buckets (λ h. first_in h (suc (length ls)) (drop (length ls) ls)) 0 (replicate buckets 0) (length-replicate buckets 0)
    (λ h l. get_or-replicate buckets h 0 0 l ∙ ap (first_in h (suc (length ls))) (sym (drop-length ls)))

pub laid_cleared : (names x : List ℕ) → laid_in names (cleared x) ≡ partly (lines_of names) (length (lines_of names)) x
unfolding laid_in cleared partly
laid_cleared names x =
    let ls = lines_of names in
    let c = length ls in
    let zeros = length-replicate {A = ℕ} buckets 0 in
    ap₂ (λ s t. s ++ (entries c 0 1 ls ++ t))
    (take_at (replicate buckets 0) (drop buckets x) buckets zeros ∙ no_heads ls)
    (sym (drop-drop (2 * c) buckets (replicate buckets 0 ++ drop buckets x))
    ∙ ap (drop (2 * c)) (drop_at (replicate buckets 0) (drop buckets x) buckets zeros)
    ∙ drop-drop (2 * c) buckets x)
