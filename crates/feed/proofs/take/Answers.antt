-- The rooms hold bytes, so what a step leaves of their records is what it leaves of their bytes (Steps.Laws). Assumes nothing.
use Rattle.std.proofs.Common.{arith}
use Rattle.meaning.proofs.Limits.Laws.{elements_is, nodes_is}
use Rattle.numbers.specs.Numbers.{numbers_in}
use Rattle.plan_bytes.specs.Kept.{kept_in}
use Rattle.feed.specs.Steps.Laws.{step_came}
use Rattle.feed.proofs.take.Goals as goal

pub returns-clause-event_came : goal.returns-clause-event_came
returns-clause-event_came c =
    step_came (kept_in c.args.kept.now) (numbers_in c.args.numbers.now) c.args.elements.now c.args.nodes.now c.args.bytes.now c.args.out.now
    (omega (arith, elements_is)) (omega (arith, nodes_is)) c.fits-elements c.fits-nodes
    _ _ _ _ _ _ (omega (arith, elements_is)) (omega (arith, nodes_is)) c.are_bytes.ensures c.are_bytes-2.ensures c.guard-taken.ensures.out_after
