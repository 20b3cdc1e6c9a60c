-- The three cases. Assumes nothing.
use mathlib.Core.Path.{refl, ap}
use Rattle.choice.specs.When.{when_yes, when_no}
use Rattle.session.specs.Told.{ended}
use Rattle.session.specs.Event.{finish}
use Rattle.session.proofs.Session.finish.Goals as goal

pub returns-then-self : goal.returns-then-self
unfolding finish
returns-then-self c = ap ended (when_yes _ _ _ _ c.if-self.true refl)

pub returns-then-self-2 : goal.returns-then-self-2
unfolding finish
returns-then-self-2 c = ap ended (when_no _ _ _ _ c.if-self.false (when_yes _ _ _ _ c.if-self-2.true refl))

pub returns : goal.returns
unfolding finish
returns c = ap ended (when_no _ _ _ _ c.if-self.false (when_no _ _ _ _ c.if-self-2.false refl))
