-- `hung` reads a row of its table. Assumes nothing.
use Rattle.plan_bytes.specs.Kept.Laws.{hung_is}
use Rattle.plan_bytes.proofs.hung.Goals as goal

pub returns : goal.returns
returns c = hung_is _ _ _ c.requires c.get.ensures
