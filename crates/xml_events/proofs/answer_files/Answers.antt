-- `xml_events::answer_files` meets its contract: the whole program. Assumes nothing.
use Rattle.std.proofs.Common.{rules}
use Rattle.lines.proofs.Put.Laws.{put_taken}
use Rattle.xml_events.specs.Program.Laws.{outcome_silent, outcome_said}
use Rattle.xml_events.proofs.answer_files.Goals as goal

pub returns-in-Some : goal.returns-in-Some
returns-in-Some c =
    outcome_said _ c.in-Some.ensures _ _
    (put_taken c.put_refused_at-length.ensures.put (search rules))
    c.write_error.ensures

pub returns-in_default : goal.returns-in_default
returns-in_default c = outcome_silent c.in_default.ensures
