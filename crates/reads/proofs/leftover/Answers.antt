-- `reads::leftover` meets its contract. Assumes nothing.
use Rattle.std.proofs.Common.{refl, ◌∙◌}
use borrow.Author.Tests.{eq-eqb, ne_eqb}
use Rattle.choice.specs.When.{when_yes, when_no}
use Rattle.reads.specs.State.{leftover_of}
use Rattle.reads.proofs.leftover.Goals as goal

pub returns-then-left-eq0 : goal.returns-then-left-eq0
unfolding leftover_of
returns-then-left-eq0 c = when_yes _ _ _ _ (eq-eqb _ _ c.if-left-eq0.true) refl

pub returns-else-left-eq0 : goal.returns-else-left-eq0
unfolding leftover_of
returns-else-left-eq0 c = c.number.ensures ∙ when_no _ _ _ _ (ne_eqb _ _ c.if-left-eq0.false) refl
