-- `intake::advance` meets its contract. Assumes nothing.
use mathlib.Core.Path.{refl}
use Rattle.intake.specs.Intake.{fed, came}
use Rattle.intake.proofs.advance.Goals as goal

pub returns-then-intake : goal.returns-then-intake
returns-then-intake c =
    fed c.if-intake.true refl c.feed_text.ensures

pub returns-else-intake : goal.returns-else-intake
returns-else-intake c = came c.if-intake.false refl refl c.read_text.ensures
