-- What `hand_over` keeps: no more is handed over than there is.
use Rattle.std.proofs.Common.{◌-◌, ◌≤◌, length}
use Rattle.system.proofs.hand_over.Given as goal

abbrev pub invariant-loop-done : goal.invariant-loop-done
invariant-loop-done g l = l.done ≤ length l.bytes

abbrev pub decreases-loop-done : goal.decreases-loop-done
decreases-loop-done g l = length l.bytes - l.done
