-- The marks of bytes.
--
--   marked marks b mark      the byte b has the mark
--   span marks mark t        how many bytes at the start of t have it
--
-- Assumes nothing. NOT here: which marks a byte has (Table).
pub mod Laws
use Rattle.std.specs.Prelude.{ℕ, suc, Bool, not, List, [], ◌∷◌, eqb, get_or}
use Rattle.std.specs.Int.Bits.{bit_and}
use Rattle.choice.specs.When.{when}

unfoldable pub marked : List ℕ → ℕ → ℕ → Bool
marked marks b mark = not (eqb (bit_and (get_or marks b 0) mark) 0)

unfoldable pub span : List ℕ → ℕ → List ℕ → ℕ
span marks mark [] = 0
span marks mark (b ∷ t) = when (marked marks b mark) (suc (span marks mark t)) 0
