-- `read_full` makes the reads and leaves their marks; that what came is counted, its loop keeps. Assumes nothing.
use borrow.Author.Rules.{rules}
use Rattle.system.specs.Marks.Seal.{gave, over}
use Rattle.system.proofs.read_full.Goals as goal

pub returns-after-loop-done : goal.returns-after-loop-done
returns-after-loop-done c = record { given = gave _ _; over = λ room. over _; counts = search rules }

pub returns-then-got-eq0 : goal.returns-then-got-eq0
returns-then-got-eq0 c = record { given = gave _ _; over = λ room. over _; counts = search rules }
