-- What each call answered, put together (Opening.Laws, opening_told). Assumes nothing.
use Rattle.opening.specs.Opening.Laws.{opening_told}
use Rattle.opening.proofs.opening.Goals as goal

pub returns-clause-elements_after : goal.returns-clause-elements_after
returns-clause-elements_after c =
    opening_told _ _ _ _ _ _ c.requires.0 c.requires.1 _ _ _ _ _ _ _ _ _ _ c.named-pass.ensures
    c.possible_at.ensures c.last_given-joins.ensures c.push-top.ensures.elements_after c.front_if-went.ensures.value
    c.steps.ensures c.sure_at.ensures c.last_given-certain.ensures c.all_go-all.ensures
