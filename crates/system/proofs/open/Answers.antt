-- `open` makes the call and leaves its mark, that the file was opened by this path. Assumes nothing.
use Rattle.system.specs.Marks.Seal.{opened}
use Rattle.system.proofs.open.Goals as goal

pub returns : goal.returns
returns c = opened _ _
