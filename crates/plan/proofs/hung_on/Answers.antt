-- `hung_on` calls the test at each place: what the calls answer is what `hangs_on` promises. Assumes nothing.
use Rattle.std.proofs.Common.{rules}
use Rattle.sets.proofs.Collect.{mask_of_calls}
use Rattle.plan.proofs.hung_on.Goals as goal

pub returns : goal.returns
returns c = mask_of_calls _ c.collected.ensures (λ t b l e. search rules)
