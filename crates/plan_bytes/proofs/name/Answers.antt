-- `name` reads 2 bytes. Assumes nothing.
use Rattle.std.proofs.Common.{rules}
use Rattle.plan_bytes.specs.Kept.{asking_in}
use Rattle.plan_bytes.proofs.name.Goals as goal

pub returns : goal.returns
unfolding asking_in
returns c = search rules
