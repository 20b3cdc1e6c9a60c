-- What is found by an index: along the chain of the word's bucket the first place where the word is spelled. Of any words, scribbled ones too: what is no
-- place ends a chain, and no chain is longer than a list may be.
--
--   entry_of p                   where the two words of place p stand
--   spelled_at names from n w    the word w is what stands in the list from byte `from` on, n bytes
--   fits_at names x w p          w is what stands at place p by the index x
--   next_of x p                  the next place in its chain
--   is_place p                   p is the number of a place
--   walked names x w n p        from p along its chain, n places at most: the first where w fits, or 65,534
--   number_of names x w          THE NUMBER of a word
--
-- Assumes nothing. NOT here: that in a built index it is the first place of the word (Found).
pub mod Laws
use Rattle.std.specs.Prelude.{ℕ, zero, suc, ◌+◌, ◌-◌, ◌*◌, ◌/◌, ◌%◌, Bool, ◌&&◌, List, eqb, leb, length, get_or, take, drop}
use Rattle.choice.specs.When.{when}
use Rattle.xml.specs.Bounds.{list_limit, unknown_name}
use Rattle.xml.specs.Grammar.{same_name}
use Rattle.spelling.specs.Bucket.{buckets, bucket_of}

abbrev pub entry_of : ℕ → ℕ
entry_of p = buckets + 2 * (p - 1)

unfoldable pub spelled_at : List ℕ → ℕ → ℕ → List ℕ → Bool
spelled_at names from n w = eqb n (length w) && (leb (from + n) (length names) && same_name (take n (drop from names)) w)

unfoldable pub fits_at : List ℕ → List ℕ → List ℕ → ℕ → Bool
fits_at names x w p = spelled_at names (get_or x (entry_of p) 0) (get_or x (entry_of p + 1) 0 / 65536) w

unfoldable pub next_of : List ℕ → ℕ → ℕ
next_of x p = get_or x (entry_of p + 1) 0 % 65536

unfoldable pub is_place : ℕ → Bool
is_place p = leb 1 p && leb p list_limit

unfoldable pub walked : List ℕ → List ℕ → List ℕ → ℕ → ℕ → ℕ
walked names x w zero p = unknown_name
walked names x w (suc n) p = when (is_place p) (when (fits_at names x w p) p (walked names x w n (next_of x p))) unknown_name

unfoldable pub number_of : List ℕ → List ℕ → List ℕ → ℕ
number_of names x w = walked names x w list_limit (get_or x (bucket_of w) 0)
