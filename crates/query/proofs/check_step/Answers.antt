-- `check_step` goes down the rules in the order of their reasons: `kept` passes to the next, `broken` ends. Assumes nothing.
use Rattle.std.proofs.Common.{rules, ◌≡◌, ap, ◌∙◌, Err}
use Rattle.limits.specs.Number.{reason_in}
use Rattle.query.specs.Reasons.{reasons_by, reasons_with}
use Rattle.query.proofs.Row.{kept, broken, last}
use Rattle.query.proofs.check_step.Goals as goal

pub returns-in_err-check_axis : goal.returns-in_err-check_axis
unfolding reasons_by reasons_with
returns-in_err-check_axis c =
    let told : c.from_residual.result ≡ Err c.in_err-check_axis.field-0.0 = search rules in
    ap reason_in told ∙ broken _ _ _ c.check_axis.ensures c.in_err-check_axis.was

pub returns-in_err-check_role : goal.returns-in_err-check_role
unfolding reasons_by reasons_with
returns-in_err-check_role c =
    let told : c.from_residual-in_err-check_role.result ≡ Err c.in_err-check_role.field-0.0 = search rules in
    ap reason_in told
    ∙ kept _ _ _ c.check_axis.ensures _ c.in_ok-check_axis.was (broken _ _ _ c.check_role.ensures c.in_err-check_role.was)

pub returns-in_err-check_hang : goal.returns-in_err-check_hang
unfolding reasons_by reasons_with
returns-in_err-check_hang c =
    let told : c.from_residual-in_err-check_hang.result ≡ Err c.in_err-check_hang.field-0.0 = search rules in
    ap reason_in told
    ∙ kept _ _ _ c.check_axis.ensures _ c.in_ok-check_axis.was
    (kept _ _ _ c.check_role.ensures _ c.in_ok-check_role.was (broken _ _ _ c.check_hang.ensures c.in_err-check_hang.was))

pub returns : goal.returns
unfolding reasons_by reasons_with
returns c =
    kept _ _ _ c.check_axis.ensures _ c.in_ok-check_axis.was
    (kept _ _ _ c.check_role.ensures _ c.in_ok-check_role.was
    (kept _ _ _ c.check_hang.ensures _ c.in_ok-check_hang.was (last _ _ _ c.check_zeros.ensures)))
