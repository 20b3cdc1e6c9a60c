-- `order_of` gives each step its place, from the last step on. The invariant: the steps after the first `left` have theirs, and so many of
-- them as `mains` says are on the main path. Assumes nothing.
use Rattle.std.proofs.Common.{◌-◌, arith}
use Rattle.plan.proofs.Laying.{laid_none, mains_none, flag_small, laid_step, mains_step, laid_all}
use Rattle.plan.proofs.order_of.Goals as goal

pub loop-left-init : goal.loop-left-init
loop-left-init c = (omega arith, laid_none _ _ (omega arith), mains_none _ _)

pub loop-left-preserved : goal.loop-left-preserved
loop-left-preserved c =
    let here = c.loop-left in
    let main = c.is_main-main.result in
    let query = c.args.query.now in
    let size = c.args.size in (
      omega (arith, flag_small main),
      laid_step query size here.left (here.left - 1) (omega arith) (omega arith) here.invariant.2 c.is_main-main.ensures here.invariant.1 c.place_for.ensures,
      mains_step query size here.left (here.left - 1) (omega arith) (omega arith) here.invariant.2 c.is_main-main.ensures,
    )

pub returns : goal.returns
returns c = laid_all _ _ _ (omega arith) c.loop-left.invariant.1
