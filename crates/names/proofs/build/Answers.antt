-- `build` goes by the room and by the check of the list. Assumes nothing.
use native.Mathlib.Omega.{arith}
use Rattle.names.proofs.Answers.{answer_scant, answer_passed, none_told}
use Rattle.names.proofs.build.Goals as goal

pub returns-then-index-lt-INDEX : goal.returns-then-index-lt-INDEX
returns-then-index-lt-INDEX c = answer_scant _ _ (omega arith)

pub returns-in_err-check : goal.returns-in_err-check
returns-in_err-check c = answer_passed _ _ (omega arith) _ _ c.from_residual.ensures.1 c.in_err-check.ensures

pub returns : goal.returns
returns c = none_told _ _ (omega arith) _ c.in_ok-check.ensures c.fill.ensures
