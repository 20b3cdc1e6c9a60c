-- On a copy of the open elements. Assumes nothing.
use Rattle.opening.specs.Opening.Laws.{over_told}
use Rattle.opening.proofs.brim.Goals as goal

pub returns : goal.returns
returns c = over_told _ _ _ _ _ _ c.requires.0 c.requires.1 _ _ _
    c.opening.ensures.elements_after c.no_place.ensures
