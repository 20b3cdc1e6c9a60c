-- The parts are compared. Assumes nothing.
use mathlib.Core.Path.{◌∙◌}
use Rattle.chars.specs.Same.{same_parts}
use Rattle.chars.proofs.same.Goals as goal

pub returns : goal.returns
returns c = c.same.ensures ∙ same_parts _ _ _ _ _
