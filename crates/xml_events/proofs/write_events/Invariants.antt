-- `xml_events::write_events` meets its contract and ends. The invariant: what the turns have come to so far. Assumes nothing.
use Rattle.std.proofs.Common.{◌≡◌, length}
use Rattle.intake.specs.Less.{text_left}
use Rattle.xml_events.specs.Program.Laws.{SoFar}
use Rattle.xml_events.proofs.write_events.Given as goal

abbrev pub invariant-turns : goal.invariant-turns
invariant-turns l =
    ((length l.input ≡ 65536) × ((length l.room ≡ 18496) × (length l.events ≡ 32768)))
    × SoFar l.names l.index l.file l.intake l.input l.room l.written

abbrev pub decreases-turns : goal.decreases-turns
decreases-turns l = text_left l.intake
