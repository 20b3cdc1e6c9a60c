-- `compassflare_check` packs the answer of `check`, case by case. Assumes nothing.
use Rattle.std.proofs.Common.{ap, ◌∙◌}
use Rattle.query.specs.Answer.{said}
use Rattle.query_c.specs.Packed.{packed}
use Rattle.query_c.proofs.compassflare_check.Goals as goal

pub returns-in-Ok : goal.returns-in-Ok
unfolding packed said
returns-in-Ok c = ap packed c.in-Ok.ensures

pub returns-in-Err : goal.returns-in-Err
returns-in-Err c = c.pack.ensures ∙ ap packed c.in-Err.ensures
