-- One number after the other: the invariant says which stand already. Assumes nothing.
use Rattle.words.specs.Words.{words}
use Rattle.plan_bytes.specs.Kept.{RowsOfCalls}
use Rattle.plan_bytes.proofs.put_all.Given as goal

abbrev pub invariant-loop-i : goal.invariant-loop-i
invariant-loop-i g l = RowsOfCalls (goal.F-post g l.number) l.at l.i (words l.initial.bytes) (words l.bytes)
