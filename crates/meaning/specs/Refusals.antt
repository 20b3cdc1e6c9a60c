-- The refusal numbers and the reasons, each in this one place, and the order in which refusals are given.
--
--   short_output, bad_record, after_end, wrong_close, too_deep, too_many_nodes, too_many_held, short_room      an event's
--   unfinished                finish's
--   already_stopped            an event's and finish's
--   bad_length, bad_step        the query's (crate query)
--   bad_axis, bad_role, bad_hang, bad_zero, forbidden      the reasons that come with bad_step (crate query, Reasons)
--   rank r                    where refusal r comes among the refusals: of those that apply, the one with the lowest rank is given
--   stops r                   a session that has given refusal r is stopped
--
-- Assumes nothing. NOT here: when each applies (Answer), the limits (Limits), the order in plain words (Refusals.Laws).
use Rattle.std.specs.Prelude.{ℕ, ◌*◌, Bool, true, false, ◌&&◌, eqb, leb}

-- "output buffer under 4,100 bytes"
abbrev pub short_output : ℕ
short_output = 1

-- "not 8 bytes, or a bad record"
abbrev pub bad_record : ℕ
bad_record = 2

-- "the document element has been closed"
abbrev pub after_end : ℕ
after_end = 3

-- "a close with nothing open, or with another name than the innermost open element"
abbrev pub wrong_close : ℕ
wrong_close = 4

-- "an open at depth 256"
abbrev pub too_deep : ℕ
too_deep = 5

-- "an open when 16,777,215 nodes have been opened"
abbrev pub too_many_nodes : ℕ
too_many_nodes = 6

-- "an open after which more than 1,024 nodes would be held"
abbrev pub too_many_held : ℕ
too_many_held = 7

-- "no document element yet, or it is still open"
abbrev pub unfinished : ℕ
unfinished = 8

-- "query of 0 bytes, of a length not a multiple of 8, or over 256 bytes"
abbrev pub bad_length : ℕ
bad_length = 9

-- "a step breaks a rule; comes with the first such step's number, and a reason"
abbrev pub bad_step : ℕ
bad_step = 10

-- "the session is stopped"
abbrev pub already_stopped : ℕ
already_stopped = 11

-- "lent room under 16,384 bytes for the open elements or under 32,768 bytes for the waiting nodes"
abbrev pub short_room : ℕ
short_room = 15

-- the reasons: "axis"
abbrev pub bad_axis : ℕ
bad_axis = 1

-- "role"
abbrev pub bad_role : ℕ
bad_role = 2

-- "what it hangs on"
abbrev pub bad_hang : ℕ
bad_hang = 3

-- "a byte that must be 0"
abbrev pub bad_zero : ℕ
bad_zero = 4

-- "a forbidden name or value"
abbrev pub forbidden : ℕ
forbidden = 5

-- "The lowest number that applies is given", but that 15 "comes directly after 1 and before all others", and 11 directly after 15: between 1, at 3, and 2,
-- at 6
unfoldable pub rank_if : Bool → Bool → ℕ → ℕ
rank_if true b r = 4
rank_if false true r = 5
rank_if false false r = 3 * r

unfoldable pub rank : ℕ → ℕ
rank r = rank_if (eqb r short_room) (eqb r already_stopped) r

-- "Once a session has given one of the refusals 2 to 7 it is stopped"
unfoldable pub stops : ℕ → Bool
stops r = leb bad_record r && leb r too_many_held
