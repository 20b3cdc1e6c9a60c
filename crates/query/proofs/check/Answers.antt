-- `check` answers as `answer_to` does: the length first, then the steps. Assumes nothing.
use mathlib.Core.Path.{sym, ◌∙◌}
use Rattle.query.proofs.Rules.Laws.{right_length}
use Rattle.query.specs.Answer.{said, answer_to, if_wrong}
use Rattle.query.proofs.check.Goals as goal

pub returns-then-wrong_length : goal.returns-then-wrong_length
unfolding said answer_to if_wrong
returns-then-wrong_length c = rw (sym c.wrong_length.ensures ∙ c.if-wrong_length.true)

pub judge-requires : goal.judge-requires
judge-requires c = right_length _ (sym c.wrong_length.ensures ∙ c.if-wrong_length.false)

pub returns : goal.returns
unfolding answer_to if_wrong
returns c = rw (sym c.wrong_length.ensures ∙ c.if-wrong_length.false) c.judge.ensures
