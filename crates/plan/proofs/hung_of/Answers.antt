-- `hung_of` puts the set of the predicate steps that hang on the step at each place into its slot. The invariant: the slots under `place`
-- are filled so, the others are 0. Assumes nothing.
use Rattle.std.proofs.Common.{arith}
use Rattle.plan.proofs.Filling.{padded_none, padded_put}
use Rattle.plan.proofs.hung_of.Goals as goal

pub loop-place-init : goal.loop-place-init
loop-place-init c = padded_none _

pub loop-place-preserved : goal.loop-place-preserved
loop-place-preserved c = padded_put c.loop-place.place _ (omega arith) c.loop-place.invariant c.hung_on.ensures
