-- The refusals for what a caller lends, by its lengths.
--
--   refuse_room elements nodes        the refusal for the lent room, or 0;  RoomFits: what is known where it is 0
--   refuse_lent out elements nodes    the same for all that an event is lent;  LentFits
--
-- Assumes nothing. NOT here: when room is too small (crate meaning, Answer).
pub mod Laws
use Rattle.std.specs.Prelude.{ℕ, ◌≤◌, ltb}
use Rattle.choice.specs.When.{when}
use Rattle.meaning.specs.Answer.{too_small}
use Rattle.meaning.specs.Limits.{output_needed, elements_needed, nodes_needed}
use Rattle.meaning.specs.Refusals.{short_output, short_room}

-- "lent room under 16,384 bytes for the open elements or under 32,768 bytes for the waiting nodes"
unfoldable pub refuse_room : ℕ → ℕ → ℕ
refuse_room elements nodes = when (too_small elements nodes) short_room 0

pub record RoomFits (elements nodes : ℕ) : Type 0 where
  pub deep : elements_needed ≤ elements
  pub held : nodes_needed ≤ nodes

-- "output buffer under 4,100 bytes"
unfoldable pub refuse_lent : ℕ → ℕ → ℕ → ℕ
refuse_lent out elements nodes = when (ltb out output_needed) short_output (refuse_room elements nodes)

pub record LentFits (out elements nodes : ℕ) : Type 0 where
  pub wide : output_needed ≤ out
  pub room : RoomFits elements nodes
