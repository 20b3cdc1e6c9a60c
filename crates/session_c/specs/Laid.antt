-- A session in lent bytes, and two counts.
--
--   session_room          how many bytes a session takes
--   session_in S          the session in the bytes S: what is kept of the query, then the numbers. Any bytes stand for one
--   session_bytes s       the bytes of the session s
--   marked_bytes r S      the bytes S of a session after the refusal r: its last number is 1 if r stops, and nothing else changes
--   counts_room, count_bytes a b     how many bytes two counts take, and these bytes: 8 for each, low byte first
--
-- Assumes nothing. NOT here: a session by its numbers (crate session, Event: `session_of`), what is kept of a query (crate plan_bytes, Kept), the numbers in
-- bytes (crate numbers, Numbers).
use Rattle.std.specs.Prelude.{ℕ, ◌+◌, ◌/◌, ◌%◌, List, [], ◌∷◌, ◌++◌, take, drop}
use mir.Val.{bool_byte}
use Rattle.choice.specs.When.{when}
use Rattle.meaning.specs.Refusals.{stops}
use Rattle.words.specs.Words.{bytes_of}
use Rattle.numbers.specs.Numbers.{numbers_room, numbers_in}
use Rattle.plan_bytes.specs.Kept.{plan_room}
use Rattle.session.specs.declared.Session.{Session}
use Rattle.session.specs.Event.{session_of}

unfoldable pub session_room : ℕ
session_room = plan_room + numbers_room

unfoldable pub session_in : List ℕ → Session
session_in S = session_of (take plan_room S) (numbers_in (drop plan_room S))

unfoldable pub session_bytes : Session → List ℕ
session_bytes s = s.kept ++ bytes_of (s.depth ∷ s.held ∷ s.opened ∷ s.handed ∷ bool_byte s.ended ∷ bool_byte s.stopped ∷ [])

-- the sixth number says that the session is stopped
unfoldable pub marked_bytes : ℕ → List ℕ → List ℕ
marked_bytes r S = when (stops r) (take (plan_room + 20) S ++ bytes_of (1 ∷ [])) S

unfoldable pub counts_room : ℕ
counts_room = 16

unfoldable pub count_bytes : ℕ → ℕ → List ℕ
count_bytes a b = bytes_of (a % 4294967296 ∷ a / 4294967296 ∷ b % 4294967296 ∷ b / 4294967296 ∷ [])
