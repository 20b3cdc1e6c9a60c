-- The bytes of an event record, as they are written.
--
--   quad a b c d           four bytes
--   event_bytes kind name   the record of an event: kind 1 opens an element, 2 closes one
--   bytes_as e              that of the code's event
--
-- Assumes nothing. NOT here: that two parts of four bytes are the record (Event.Laws).
pub mod Laws
use Rattle.std.specs.Prelude.{ℕ, ◌/◌, ◌%◌, List, [], ◌∷◌}
use Rattle.records.specs.declared.Event.{Event}
use Rattle.records.specs.declared.Event.TheVariants.{Open, Close}

abbrev pub quad : ℕ → ℕ → ℕ → ℕ → List ℕ
quad a b c d = a ∷ b ∷ c ∷ d ∷ []

-- "Byte 0 is the kind: 1 opens an element, 2 closes one. Byte 1 is 0. Bytes 2 and 3 are the name number, 1 to 65,535. Bytes 4 to 7 are 0."
abbrev pub event_bytes : ℕ → ℕ → List ℕ
event_bytes kind name = kind ∷ 0 ∷ name / 256 ∷ name % 256 ∷ 0 ∷ 0 ∷ 0 ∷ 0 ∷ []

abbrev pub bytes_as : Event → List ℕ
bytes_as (Open name) = event_bytes 1 name
bytes_as (Close name) = event_bytes 2 name
