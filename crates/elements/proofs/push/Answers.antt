-- What each call answered, put together (Elements.Laws, push_parts). Assumes nothing.
use Rattle.elements.specs.Elements.Laws.{push_parts}
use Rattle.elements.proofs.push.Goals as goal

pub returns-clause-elements_after : goal.returns-clause-elements_after
returns-clause-elements_after c =
    push_parts _ _ _ _ c.requires.depth_bound _ _ _ _ _ _ _ _ _ _ c.requires.pass_value c.steps.ensures
    c.possible_at.ensures c.turn-possible.ensures c.predicates.ensures c.rise-top.ensures.elements_after c.sure_at-around.ensures
    c.open.ensures c.refresh.ensures
