-- `intake::ask` meets its contract. Assumes nothing.
use mathlib.Core.Path.{refl}
use Rattle.intake.specs.Intake.{enough, asked}
use Rattle.intake.proofs.ask.Goals as goal

pub returns-then-taken-ge-LONGEST : goal.returns-then-taken-ge-LONGEST
returns-then-taken-ge-LONGEST c = enough c.if-taken-ge-LONGEST.true refl refl

pub returns-else-taken-ge-LONGEST : goal.returns-else-taken-ge-LONGEST
returns-else-taken-ge-LONGEST c = asked c.if-taken-ge-LONGEST.false c.read_at.ensures
