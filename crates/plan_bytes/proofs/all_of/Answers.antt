-- A shifted 1 less 1. Assumes nothing.
use native.Mathlib.Omega.{arith}
use Rattle.plan_bytes.specs.Kept.Laws.{all_some, all_is, all_small}
use Rattle.plan_bytes.proofs.all_of.Goals as goal

pub overflow_sub-result : goal.overflow_sub-result
overflow_sub-result c = all_some _ c.requires

pub overflow_cast-result : goal.overflow_cast-result
overflow_cast-result c = omega (arith, all_small c.args.size c.requires)

pub returns : goal.returns
returns c = all_is _ c.requires
