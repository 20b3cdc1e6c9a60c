-- `buckets_of` files the steps from the last on. The invariant: those from `place` on are filed. Assumes nothing.
use Rattle.std.proofs.Common.{◌-◌, ◌∙◌, arith, length-take}
use Rattle.plan.proofs.Buckets.{known_none, known_step, known_all}
use Rattle.plan.proofs.buckets_of.Goals as goal

pub loop-place-init : goal.loop-place-init
loop-place-init c = known_none _ _ (omega (arith, length-take c.args.size c.args.names.now))

pub loop-place-preserved : goal.loop-place-preserved
loop-place-preserved c =
    let here = c.loop-place in
    c.file.ensures ∙ known_step c.args.names.now c.args.size here.place (here.place - 1) (omega arith) (omega arith) (omega arith) here.invariant

pub returns : goal.returns
returns c = known_all _ _ (omega arith) c.loop-place.invariant
