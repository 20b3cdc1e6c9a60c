-- The index of a list of names: in its words, for each bucket the first place of its chain, and for each place where its name stands and which place is next
-- in its chain. Places count from 1, and 0 is none.
--
--   index_words              how many words an index has
--   first_in h n ls          the first place of bucket h among the lines ls, of which the first is place n
--   link_of next bytes       the second word of a place: the next place and how many bytes its name has
--   entries k from n ls     the two words of each place of ls, of which the first is place n and begins at byte `from`: where the name begins, and its link;
--                           the first k places are in no chain yet
--   heads k ls              the first word of each chain, where the first k places are in no chain yet
--   partly ls k x           the words x with the index of ls in front, where the first k places are in no chain yet
--   built names x           THE INDEX of a list, in the words x: those that it does not need are as they were
--   cleared x, laid_in names x      x with empty buckets; x with the places of a list, in no chain yet
--   spelling_at names x e    the name whose two words stand at e;  EntryFits: they say what stands in the list
--   Ready names x           the list is fine, and an index has room in x;  Laid names x n: and its n places are in it, in no chain yet
--
-- Assumes nothing. NOT here: which lists are refused, and what is found by an index (crate names).
use Rattle.std.specs.Prelude.{ℕ, zero, suc, ◌+◌, ◌*◌, ◌/◌, ◌≤◌, ◌<◌, ◌≡◌, List, [], ◌∷◌, ◌++◌, eqb, length, get_or, take, drop, replicate}
use Rattle.choice.specs.When.{when}
use Rattle.words.specs.Rows.{rows}
use Rattle.xml.specs.Bounds.{list_limit}
use Rattle.listed.specs.Lines.{lines_of}
use Rattle.listed.specs.Listed.{fine, list_answer}
use Rattle.spelling.specs.Bucket.{buckets, bucket_of}

unfoldable pub index_words : ℕ
index_words = buckets + 2 * list_limit

unfoldable pub first_in : ℕ → ℕ → List (List ℕ) → ℕ
first_in h n [] = 0
first_in h n (l ∷ ls) = when (eqb (bucket_of l) h) n (first_in h (suc n) ls)

abbrev pub link_of : ℕ → ℕ → ℕ
link_of next bytes = next + 65536 * bytes

unfoldable pub entries : ℕ → ℕ → ℕ → List (List ℕ) → List ℕ
entries k from n [] = []
entries zero from n (l ∷ ls) = from ∷ link_of (first_in (bucket_of l) (suc n) ls) (length l) ∷ entries zero (from + length l + 1) (suc n) ls
entries (suc k) from n (l ∷ ls) = from ∷ link_of 0 (length l) ∷ entries k (from + length l + 1) (suc n) ls

abbrev pub heads : ℕ → List (List ℕ) → List ℕ
heads k ls = rows buckets (λ h. first_in h (suc k) (drop k ls))

unfoldable pub partly : List (List ℕ) → ℕ → List ℕ → List ℕ
partly ls k x = heads k ls ++ (entries k 0 1 ls ++ drop (buckets + 2 * length ls) x)

unfoldable pub built : List ℕ → List ℕ → List ℕ
built names x = partly (lines_of names) 0 x

unfoldable pub cleared : List ℕ → List ℕ
cleared x = replicate buckets 0 ++ drop buckets x

unfoldable pub laid_in : List ℕ → List ℕ → List ℕ
laid_in names x = take buckets x ++ (entries (length (lines_of names)) 0 1 (lines_of names) ++ drop (buckets + 2 * length (lines_of names)) x)

unfoldable pub spelling_at : List ℕ → List ℕ → ℕ → List ℕ
spelling_at names x e = take (get_or x (e + 1) 0 / 65536) (drop (get_or x e 0) names)

pub record EntryFits (names x : List ℕ) (e : ℕ) : Type 0 where
  pub there : e + 1 < length x
  pub within : get_or x e 0 + get_or x (e + 1) 0 / 65536 ≤ length names

pub record Ready (names x : List ℕ) : Type 0 where
  pub taken : list_answer names ≡ fine
  pub room : index_words ≤ length x

pub record Laid (names x : List ℕ) (count : ℕ) : Type 0 where
  pub ready : Ready names x
  pub all : count ≡ length (lines_of names)
  pub places : x ≡ partly (lines_of names) count x
