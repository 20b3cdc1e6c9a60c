-- Each call answers the test of its step. Assumes nothing.
use Rattle.std.proofs.Common.{rules}
use Rattle.sets.proofs.Collect.{mask_of_calls}
use Rattle.elements.proofs.all_asking.Goals as goal

pub returns : goal.returns
returns c = mask_of_calls _ c.collected.ensures (λ t b l e. search rules)
