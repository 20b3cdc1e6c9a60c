-- A session's numbers as they stand in lent bytes: one record of 6 numbers, all of them fields.
--
--   Numbers             how many elements are open, how many nodes wait, were opened and were handed out, whether the document element has been
--                       closed (not 0), and whether the session is stopped (not 0)
--   place g             where a field stands
--   shape               their record;  numbers_room: how many bytes it takes
--   record_in bs, numbers_in bs         the record in bytes, and the numbers in it
--   numbers_of           the numbers one by one
--   with_stop v n        the numbers n, with v for whether the session is stopped
--   Said n              what is said by 0 or not 0 is said by 0 or 1
--
-- Assumes nothing.
pub mod Laws
use Rattle.std.specs.Prelude.{ℕ, ◌≤◌, List, [], ◌∷◌, get_or}
use Rattle.numbers.specs.declared.Field.{Field}
use Rattle.numbers.specs.declared.Field.TheVariants.{Depth, Held, Opened, Handed, Ended, Stopped}
use Rattle.words.specs.Records.{Shape, Records, room, records_in, at}

pub record Numbers : Type 0 where
  pub depth : ℕ
  pub held : ℕ
  pub opened : ℕ
  pub handed : ℕ
  pub ended : ℕ
  pub stopped : ℕ

abbrev pub make : (ℕ → ℕ) → Numbers
make r = record { depth = r 0; held = r 1; opened = r 2; handed = r 3; ended = r 4; stopped = r 5 }

abbrev pub field_of : ℕ → Numbers → ℕ
field_of g n = get_or (n.depth ∷ n.held ∷ n.opened ∷ n.handed ∷ n.ended ∷ n.stopped ∷ []) g 0

abbrev pub place : Field → ℕ
place Depth = 0
place Held = 1
place Opened = 2
place Handed = 3
place Ended = 4
place Stopped = 5

abbrev pub shape : Shape Numbers
shape = record { count = 1; wide = 6; fields = 6; make = make; field = field_of }

unfoldable pub numbers_room : ℕ
numbers_room = room shape

unfoldable pub record_in : List ℕ → Records Numbers
record_in bs = records_in shape bs

unfoldable pub numbers_in : List ℕ → Numbers
numbers_in bs = at shape (record_in bs) 0

abbrev pub numbers_of : ℕ → ℕ → ℕ → ℕ → ℕ → ℕ → Numbers
numbers_of depth held opened handed ended stopped =
    record { depth = depth; held = held; opened = opened; handed = handed; ended = ended; stopped = stopped }

abbrev pub with_stop : ℕ → Numbers → Numbers
with_stop v n = numbers_of n.depth n.held n.opened n.handed n.ended v

pub record Said (n : Numbers) : Type 0 where
  pub ended : n.ended ≤ 1
  pub stopped : n.stopped ≤ 1
