-- `write_error` makes the call and leaves its mark, that the bytes were handed to standard error and whether all were taken. Assumes nothing.
use Rattle.system.specs.Marks.Seal.{complained}
use Rattle.system.proofs.write_error.Goals as goal

pub returns : goal.returns
returns c = complained _ _
