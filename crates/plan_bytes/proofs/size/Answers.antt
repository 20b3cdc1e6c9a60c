-- `size` reads how many steps there are, 32 at most. Assumes nothing.
use Rattle.plan_bytes.specs.Kept.Laws.{size_is}
use Rattle.plan_bytes.proofs.size.Goals as goal

pub returns : goal.returns
returns c = size_is _ _ _ c.get.ensures c.size_of.ensures
