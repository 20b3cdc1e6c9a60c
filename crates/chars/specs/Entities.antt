-- The five entities, and how a spelling of one goes on.
--
--   entity_table                  each entity's spelling with its semicolon, filled up with 0 to 5 bytes, and the code point that it stands for
--   goes_on T row like n b        the entity at row begins with the first n bytes of the one at `like`, and then has b
--   entity_from T like n b row k  the first such row from row on, of the k there; no_entity for none
--   entity_row like n b           the first such row of all
--   row_in k                      the row k as the code has it: none for no_entity
--
-- Assumes nothing. NOT here: that these are the grammar's (crate text_right, Entities).
pub mod Laws
use Rattle.std.specs.Prelude.{ℕ, zero, suc, ◌+◌, ◌*◌, Bool, false, Option, Some, None, List, [], ◌∷◌, eqb, leb, get_or}
use Rattle.choice.specs.When.{when}
use Rattle.chars.specs.Same.{same_bytes}

abbrev pub no_entity : ℕ
no_entity = 5

abbrev pub entity_table : List ℕ
entity_table =
    108 ∷ 116 ∷ 59 ∷ 0 ∷ 0 ∷ 60
    ∷ 103 ∷ 116 ∷ 59 ∷ 0 ∷ 0 ∷ 62
    ∷ 97 ∷ 109 ∷ 112 ∷ 59 ∷ 0 ∷ 38
    ∷ 97 ∷ 112 ∷ 111 ∷ 115 ∷ 59 ∷ 39
    ∷ 113 ∷ 117 ∷ 111 ∷ 116 ∷ 59 ∷ 34
    ∷ []

unfoldable pub goes_on : List ℕ → ℕ → ℕ → ℕ → ℕ → Bool
goes_on T row like n b =
    when (leb 5 n) false
    (when (leb 5 like) false (when (same_bytes T (6 * row) T (6 * like) n) (eqb (get_or T (6 * row + n) 0) b) false))

unfoldable pub entity_from : List ℕ → ℕ → ℕ → ℕ → ℕ → ℕ → ℕ
entity_from T like n b row zero = no_entity
entity_from T like n b row (suc k) = when (goes_on T row like n b) row (entity_from T like n b (row + 1) k)

unfoldable pub entity_row : ℕ → ℕ → ℕ → ℕ
entity_row like n b = entity_from entity_table like n b 0 5

abbrev pub row_in : ℕ → Option ℕ
row_in k = when (eqb k no_entity) None (Some k)
