-- `write` makes the call and leaves its mark, that the bytes were handed over and whether all were taken. Assumes nothing.
use Rattle.system.specs.Marks.Seal.{handed}
use Rattle.system.proofs.write.Goals as goal

pub returns : goal.returns
returns c = handed _ _
