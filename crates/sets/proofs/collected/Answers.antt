-- `collected` calls the test at each place. The invariant: the places before this one are collected as the calls answered. Assumes nothing.
use Rattle.std.proofs.Common.{refl, arith}
use Rattle.sets.proofs.Collect.{called_none, called_flag, called_all}
use Rattle.sets.proofs.collected.Goals as goal

pub loop-place-init : goal.loop-place-init
loop-place-init g c = called_none _

pub loop-place-preserved : goal.loop-place-preserved
loop-place-preserved g c = called_flag 32 (omega arith) refl c.loop-place.invariant c.holds.ensures

pub returns : goal.returns
returns g c = called_all _ (omega arith) c.loop-place.invariant
