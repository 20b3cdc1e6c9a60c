-- An intake at the start, and a state without events. Assumes nothing.
use Rattle.text_turns.specs.Stand.{begun_stand}
use Rattle.text_turns.proofs.begin.Goals as goal

pub returns : goal.returns
returns c = begun_stand _ _ c.begin.ensures
