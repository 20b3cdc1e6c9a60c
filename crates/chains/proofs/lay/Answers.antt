-- `lay` goes through the lines and lays the two words of each. The invariant is Laying.Standing.
-- Assumes nothing.
use native.Mathlib.Omega.{arith}
use Rattle.chains.proofs.Laying.{lay_starts, turn, lay_done}
use Rattle.chains.proofs.lay.Goals as goal

pub loop-at-init : goal.loop-at-init
loop-at-init c = lay_starts _ _

pub loop-at-preserved : goal.loop-at-preserved
loop-at-preserved c =
    turn c.requires c.loop-at.invariant (omega arith) c.line_end-end.ensures

pub returns : goal.returns
returns c =
    let done = lay_done c.requires c.loop-at.invariant (omega arith) in
    record { value = done.0; index_after = done.1 }
