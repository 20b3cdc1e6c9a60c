-- `turns::work_all` meets its contract and ends. The invariant: what the turns have come to so far, for the query that the session was begun with.
-- Assumes nothing.
use Rattle.std.proofs.Common.{ℕ, ◌≡◌, List, length}
use Rattle.reads.specs.State.{UnreadWithin}
use Rattle.turns.specs.Turns.{BegunFor, TurnsSoFar}
use Rattle.turns.specs.Turns.Laws.{measure}
use Rattle.turns.proofs.work_all.Given as goal

abbrev pub invariant-turns : goal.invariant-turns
invariant-turns l =
    (((length l.input ≡ length l.initial.input) × ((length l.elements ≡ length l.initial.elements) × (length l.nodes ≡ length l.initial.nodes)))
    × ((length l.out ≡ length l.initial.out) × (length l.text ≡ length l.initial.text)))
    × (UnreadWithin l.state (length l.input)
    × ((b : List ℕ) → BegunFor b l.initial.state.session → TurnsSoFar b l.file l.state l.input l.elements l.nodes))

abbrev pub decreases-turns : goal.decreases-turns
decreases-turns l = measure (length l.initial.input) l.state l.input
