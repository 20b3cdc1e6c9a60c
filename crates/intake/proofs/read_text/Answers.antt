-- `intake::read_text` meets its contract. Assumes nothing.
use mathlib.Core.Path.{refl}
use Rattle.intake.proofs.Steps.{came_so}
use Rattle.intake.proofs.read_text.Goals as goal

pub returns : goal.returns
returns c =
    let a = c.args in
    came_so a.file.now a.intake a.input.now _ _ _ refl c.ask-more.ensures
