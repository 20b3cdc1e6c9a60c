-- Bytes as numbers of 4 bytes, low byte first, and back.
--
--   word a b c d    the number of 4 bytes
--   words bs        the numbers of bs, a rest of under 4 bytes left out
--   bytes_of ws      the bytes of the numbers ws
--   Bytes bs        each of bs is a byte
--
-- Assumes nothing. NOT here: what stands at a place, what writing a number does, and that bytes_of undoes words (Words.Laws).
pub mod Laws
use Rattle.std.specs.Prelude.{ℕ, ◌+◌, ◌*◌, ◌/◌, ◌%◌, ◌<◌, List, [], ◌∷◌, get_or}

abbrev pub word : ℕ → ℕ → ℕ → ℕ → ℕ
word a b c d = a + 256 * (b + 256 * (c + 256 * d))

unfoldable pub words : List ℕ → List ℕ
words [] = []
words (a ∷ []) = []
words (a ∷ b ∷ []) = []
words (a ∷ b ∷ c ∷ []) = []
words (a ∷ b ∷ c ∷ d ∷ bs) = word a b c d ∷ words bs

unfoldable pub bytes_of : List ℕ → List ℕ
bytes_of [] = []
bytes_of (v ∷ ws) = v % 256 ∷ v / 256 % 256 ∷ v / 256 / 256 % 256 ∷ v / 256 / 256 / 256 % 256 ∷ bytes_of ws

abbrev pub Bytes : List ℕ → Type 0
Bytes bs = (i : ℕ) → get_or bs i 0 < 256
