-- The lines that the program writes besides the nodes, by what the calls answered.
--
--   query_line a             the line that answers a refused begin; nothing where a session is begun
--   finish_line f taken      the last line of a stream of which so many events were taken and none was refused, by what finish answers
--   last_line f taken r      the last line where event taken + 1 was refused with r; r is 0 where none was
--   by_number f              what finish answers, its refusal by its number
--   line_of_finish f taken, line_of_end f taken r      finish_line and last_line of that
--
-- Assumes nothing. NOT here: which lines are owed for which files (crate pick, Program), the lines themselves (crate lines).
use Rattle.std.specs.Prelude.{ℕ, ◌+◌, cond, List, [], Result, Ok, Err, ltb}
use Rattle.lines.specs.Text.{end_line, refused_at_line, refused_for_line, refused_line}
use Rattle.meaning.specs.Refusals.{short_room, bad_length, bad_step}
use Rattle.limits.specs.declared.Refusal.{Refusal}
use Rattle.limits.specs.Number.{number, reason_number}
use Rattle.query.specs.declared.QueryFault.TheVariants.{Length, Step}
use Rattle.session.specs.declared.StartFault.{StartFault}
use Rattle.session.specs.declared.StartFault.TheVariants.{ShortRoom, Query}
use Rattle.session.specs.declared.Counts.{Counts}

-- "Refusal 9 is written `refused 9`, and refusal 10 `refused 10 at K reason N`."
abbrev pub query_line : Result (Unit {0}) StartFault → List ℕ
query_line (Ok t) = []
query_line (Err ShortRoom) = refused_line short_room
query_line (Err (Query Length)) = refused_line bad_length
query_line (Err (Query (Step k r))) = refused_for_line bad_step k (reason_number r)

-- "for refusal 8 the number of accepted events"; "`end N` with the number handed out"
abbrev pub finish_line : Result Counts ℕ → ℕ → List ℕ
finish_line (Err r) taken = refused_at_line r taken
finish_line (Ok c) taken = end_line c.handed

-- "E is the number of the refused event, counted from 1"
abbrev pub last_line : Result Counts ℕ → ℕ → ℕ → List ℕ
last_line f taken r = cond (ltb 0 r) (refused_at_line r (taken + 1)) (finish_line f taken)

abbrev pub by_number : Result Counts Refusal → Result Counts ℕ
by_number (Err r) = Err (number r)
by_number (Ok c) = Ok c

abbrev pub line_of_finish : Result Counts Refusal → ℕ → List ℕ
line_of_finish f taken = finish_line (by_number f) taken

abbrev pub line_of_end : Result Counts Refusal → ℕ → ℕ → List ℕ
line_of_end f taken r = last_line (by_number f) taken r
