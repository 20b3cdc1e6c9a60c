-- `judge` answers as the first step that breaks a rule decides. The invariant: `near` is the nearest main-path step among those passed, and the
-- answer from here on is the query's. Assumes nothing.
use Rattle.std.proofs.Common.{◌≡◌, ◌-◌}
use Rattle.query.specs.Rules.{steps, nearest}
use Rattle.query.specs.Answer.{judged_from, judged}
use Rattle.query.proofs.judge.Given as goal

abbrev pub invariant-loop-before : goal.invariant-loop-before
invariant-loop-before l =
    (l.near ≡ nearest l.query l.before) × (judged_from l.query (steps l.query - l.before) l.before ≡ judged l.query)
