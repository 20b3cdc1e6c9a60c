-- `stars` reads a set of steps, and cuts it. Assumes nothing.
use Rattle.std.proofs.Common.{ap}
use Rattle.sets.specs.Set.{meet}
use Rattle.plan_bytes.specs.Kept.Laws.{stars_is}
use Rattle.plan_bytes.proofs.stars.Goals as goal

pub returns : goal.returns
returns c = stars_is _ _ _ _ c.requires c.all_of.ensures (ap (λ m. meet m c.all_of.result) c.get.ensures)
