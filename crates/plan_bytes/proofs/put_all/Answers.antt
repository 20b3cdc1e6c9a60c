-- One number after the other: the invariant says which stand already. Assumes nothing.
use Rattle.std.proofs.Common.{arith}
use Rattle.plan_bytes.specs.Kept.Laws.{calls_none, calls_put, calls_all}
use Rattle.plan_bytes.proofs.put_all.Goals as goal

pub loop-i-init : goal.loop-i-init
loop-i-init g c = calls_none _ _ _

pub loop-i-preserved : goal.loop-i-preserved
loop-i-preserved g c = calls_put c.loop-i.invariant c.number.ensures c.put.ensures

pub returns : goal.returns
returns g c = calls_all _ c.loop-i.invariant (omega arith)
