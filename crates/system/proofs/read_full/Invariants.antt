-- What `read_full` keeps: no more has come than there is room for.
use Rattle.std.proofs.Common.{◌-◌, ◌≤◌, length}
use Rattle.system.proofs.read_full.Given as goal

abbrev pub invariant-loop-done : goal.invariant-loop-done
invariant-loop-done l = l.done ≤ length l.input

abbrev pub decreases-loop-done : goal.decreases-loop-done
decreases-loop-done l = length l.input - l.done
