-- By whether events are unread. Assumes nothing.
use mathlib.Core.Path.{refl}
use Rattle.text_turns.specs.Stand.{kept, filled}
use Rattle.text_turns.proofs.refill.Goals as goal

pub returns-then-state : goal.returns-then-state
returns-then-state c = kept c.if-state.true refl refl refl refl

pub returns : goal.returns
returns c =
    filled c.if-state.false refl c.advance-intake.ensures
