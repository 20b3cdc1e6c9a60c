-- The reader's lent room, in slots: one for each element that may be open, the outermost first, then one for each attribute of a tag.
--
--   room_needed               the bytes of all slots;  attribute_slot: the first of an attribute
--   name_bytes                how many bytes a name has in a slot at most: the limit of a name. Its length stands after them
--   base_of s                 where slot s begins; one that is not there counts as the first
--   length_in R s             the length of the name in slot s; one past the limit, which no calls lead to, counts as the limit
--   name_in R s               the name
--   number_in R s, numbered R s x      its number; the room with the number x there
--
-- Assumes nothing.
pub mod Laws
use Rattle.std.specs.Prelude.{ℕ, ◌+◌, ◌*◌, ◌/◌, ◌%◌, List, ltb, get_or, set, take, drop}
use Rattle.choice.specs.When.{when}

unfoldable pub room_needed : ℕ
room_needed = 18_496

abbrev pub attribute_slot : ℕ
attribute_slot = 256

abbrev pub name_bytes : ℕ
name_bytes = 64

unfoldable pub base_of : ℕ → ℕ
base_of s = when (ltb s 272) (s * 68) 0

unfoldable pub length_in : List ℕ → ℕ → ℕ
length_in R s = when (ltb name_bytes (get_or R (base_of s + name_bytes) 0)) name_bytes (get_or R (base_of s + name_bytes) 0)

unfoldable pub name_in : List ℕ → ℕ → List ℕ
name_in R s = take (length_in R s) (drop (base_of s) R)

unfoldable pub number_in : List ℕ → ℕ → ℕ
number_in R s = get_or R (base_of s + 65) 0 * 256 + get_or R (base_of s + 66) 0

unfoldable pub numbered : List ℕ → ℕ → ℕ → List ℕ
numbered R s x = set (set R (base_of s + 65) (x / 256)) (base_of s + 66) (x % 256)
