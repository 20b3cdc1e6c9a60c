-- A list of names as lines of bytes.
--
--   line_feed         the byte that ends a line
--   lines_of names    the lines of a list, without their line feeds: what stands after the last line feed is a line only if it has bytes
--   onto b ls        b at the front of the first line
--   line_length t     how many bytes stand before the first line feed
--   line_at ls k      the line that has k lines before it
--   start_of ls k     where it begins among the bytes
--
-- Assumes nothing. NOT here: which lines a list may have (Listed), that line_length and start_of find the lines
-- (Lines.Laws), the lines in words (Lines.Joined).
pub mod Laws
pub mod Joined
use Rattle.std.specs.Prelude.{ℕ, zero, suc, ◌+◌, List, [], ◌∷◌, eqb, length, get_or}
use Rattle.choice.specs.When.{when}

abbrev pub line_feed : ℕ
line_feed = 10

unfoldable pub onto : ℕ → List (List ℕ) → List (List ℕ)
onto b [] = (b ∷ []) ∷ []
onto b (l ∷ ls) = (b ∷ l) ∷ ls

-- "one name a line, each line ended by a line feed, which may be missing after the last"
unfoldable pub lines_of : List ℕ → List (List ℕ)
lines_of [] = []
lines_of (b ∷ t) = when (eqb b line_feed) ([] ∷ lines_of t) (onto b (lines_of t))

unfoldable pub line_length : List ℕ → ℕ
line_length [] = 0
line_length (b ∷ t) = when (eqb b line_feed) 0 (suc (line_length t))

abbrev pub line_at : List (List ℕ) → ℕ → List ℕ
line_at ls k = get_or ls k []

unfoldable pub start_of : List (List ℕ) → ℕ → ℕ
start_of ls zero = 0
start_of [] (suc k) = 0
start_of (l ∷ ls) (suc k) = suc (length l) + start_of ls k
