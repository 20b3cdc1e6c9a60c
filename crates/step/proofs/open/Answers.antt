-- An open that is not full has a place for its node; the rest is found. Assumes nothing.
use Rattle.std.proofs.Common.{arith}
use Rattle.opening.specs.Opening.Laws.{has_place}
use Rattle.step.proofs.open.Goals as goal

pub join-rest-requires-clause-held_bound : goal.join-rest-requires-clause-held_bound
join-rest-requires-clause-held_bound c =
    let fits = c.in_ok-check_open.ensures.fits in
    has_place _ _ _ _ _ _ (omega arith) (omega arith) _ _ _ c.opening-go.ensures.elements_after c.full.ensures c.if-full.false
