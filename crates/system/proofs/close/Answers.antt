-- `close` makes the call and leaves its mark, that the file was closed. Assumes nothing.
use Rattle.system.specs.Marks.Seal.{closed}
use Rattle.system.proofs.close.Goals as goal

pub returns : goal.returns
returns c = closed _
