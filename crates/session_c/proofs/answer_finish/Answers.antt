-- Case by case. Assumes nothing.
use Rattle.std.specs.Prelude.{Result}
use mathlib.Core.Path.{sym, ap, ◌∙◌}
use Rattle.limits.specs.declared.Refusal.{Refusal}
use Rattle.session.specs.declared.Counts.{Counts}
use Rattle.session_c.specs.Exported.{end_number, counted_by}
use Rattle.session_c.proofs.answer_finish.Goals as goal

pub returns-in-Ok : goal.returns-in-Ok
unfolding end_number counted_by
returns-in-Ok c = let g = sym c.in-Ok.is in
    (ap end_number g, c.put_counts.ensures ∙ ap (λ (f : Result Counts Refusal). counted_by f c.args.counts.now) g)

pub returns-in-Err : goal.returns-in-Err
unfolding end_number counted_by
returns-in-Err c = let g = sym c.in-Err.is in
    (c.number.ensures ∙ ap end_number g, ap (λ (f : Result Counts Refusal). counted_by f c.args.counts.now) g)
