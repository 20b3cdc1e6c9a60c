-- `text_turns::work_text` meets its contract and ends. The invariant: what the turns have come to so far, for the query that the session was begun with.
-- Assumes nothing.
use Rattle.std.proofs.Common.{◌≡◌, length}
use Rattle.text_turns.specs.SoFar.{TextSoFar, left_of}
use Rattle.text_turns.proofs.work_text.Given as goal

abbrev pub invariant-turns : goal.invariant-turns
invariant-turns l =
    (((length l.input ≡ 65536) × ((length l.room ≡ 18496) × ((length l.events ≡ 32768) × (length l.out ≡ 32768))))
    × ((length l.elements ≡ length l.initial.elements) × ((length l.nodes ≡ length l.initial.nodes) × (length l.lines ≡ length l.initial.lines))))
    × TextSoFar l.names l.index l.file l.initial.stand.state.session l.stand l.input l.room l.events l.elements l.nodes

abbrev pub decreases-turns : goal.decreases-turns
decreases-turns l = left_of l.names l.index l.file l.initial.stand.state.session l.stand l.events
