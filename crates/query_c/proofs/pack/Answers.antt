-- Case by case. Assumes nothing.
use Rattle.std.proofs.Common.{◌≡◌, ◌+◌, ◌*◌, ap, sym, ◌∙◌, arith, Err}
use Rattle.limits.specs.Number.{reason_number}
use Rattle.meaning.specs.Refusals.{bad_step}
use Rattle.query.specs.declared.QueryFault.{QueryFault}
use Rattle.query.specs.Answer.{said}
use Rattle.query_c.specs.Packed.{packed}
use Rattle.query_c.proofs.pack.Goals as goal

pub returns-in-Length : goal.returns-in-Length
unfolding packed said
returns-in-Length c = c.number.ensures ∙ ap (λ (f : QueryFault). packed (said (Err f))) (sym c.in-Length.is)

pub returns-in-Step : goal.returns-in-Step
unfolding packed said
returns-in-Step c =
    let step = c.in-Step in
    let whole : c.from_le_bytes.result ≡ bad_step + 256 * step.k + 65536 * reason_number step.reason = omega arith in
    whole ∙ ap (λ (f : QueryFault). packed (said (Err f))) (sym step.is)
