-- `turns::take_turn` meets its contract. Assumes nothing.
use mathlib.Core.Path.{refl}
use Rattle.turns.specs.Turns.{worked, read}
use Rattle.turns.proofs.take_turn.Goals as goal

pub returns-then-state-ge8 : goal.returns-then-state-ge8
returns-then-state-ge8 c =
    worked c.if-state-ge8.true refl c.work_block.ensures

pub returns-else-state-ge8 : goal.returns-else-state-ge8
returns-else-state-ge8 c = read c.if-state-ge8.false refl refl c.read_more.ensures
