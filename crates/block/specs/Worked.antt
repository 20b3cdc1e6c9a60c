-- What a block of events makes of the state.
--
--   block_of s input E N out    the block of the whole records that are unread, with the room E and N (crate session, Run)
--   Worked s input E N out s' E' N'     a block of events: the state and the room are what it came to, the bytes not taken stand where the state says, and
--                              the lines of the nodes that it listed were handed to standard output
--
-- Assumes nothing. NOT here: what a read makes of the state (crate reads, State), what both come to together (crate turns, Turns).
use Rattle.std.specs.Prelude.{ℕ, ◌+◌, ◌*◌, ◌/◌, ◌≡◌, false, List, length, drop}
use Rattle.feed.specs.Fed.{Fed, fed}
use Rattle.session.specs.Run.{Housed, housed, event_at}
use Rattle.lines.specs.Text.{lines_of, nodes_in}
use Rattle.system.specs.Marks.{WriteTold}
use Rattle.reads.specs.declared.State.{State}
use Rattle.reads.specs.State.{unread, UnreadWithin}

-- the block that is worked on
abbrev pub block_of : State → List ℕ → List ℕ → List ℕ → List ℕ → Fed Housed
block_of s input E N out = fed event_at (length (unread s input) / 8) (housed s.session E N) (unread s input) out

pub record Worked (s : State) (input E N out : List ℕ) (s' : State) (E' N' : List ℕ) : Type 0 where
  pub seat_so : housed s'.session E' N' ≡ (block_of s input E N out).seat
  pub taken_so : s'.taken ≡ s.taken + (block_of s input E N out).taken
  pub refusal_so : s'.refusal ≡ (block_of s input E N out).refusal
  pub left : unread s' input ≡ drop (8 * (block_of s input E N out).taken) (unread s input)
  pub within : UnreadWithin s' (length input)
  pub not_ended : s'.ended ≡ false
  pub handed : WriteTold (lines_of (nodes_in (block_of s input E N out).listed (block_of s input E N out).out)) s'.written
