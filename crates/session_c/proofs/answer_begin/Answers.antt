-- Case by case. Assumes nothing.
use Rattle.std.proofs.Common.{Result, ap, sym, ◌∙◌}
use Rattle.query_c.specs.Packed.{packed}
use Rattle.session.specs.declared.StartFault.{StartFault}
use Rattle.session.specs.Begin.{said}
use Rattle.session_c.specs.Exported.{started_by}
use Rattle.session_c.proofs.Exported.Laws.{refused_start}
use Rattle.session_c.proofs.answer_begin.Goals as goal

pub returns-in-Ok : goal.returns-in-Ok
unfolding packed said started_by
returns-in-Ok c = let g = sym c.in-Ok.is in (
  ap (λ (a : Result (Unit {0}) StartFault). packed (said a)) g,
  c.put_session.ensures ∙ ap (λ (a : Result (Unit {0}) StartFault). started_by (said a) c.args.first c.args.room.now) g,
)

pub returns-in-Err : goal.returns-in-Err
returns-in-Err c = let g = sym c.in-Err.is in (
  c.fault_number.ensures ∙ ap (λ (a : Result (Unit {0}) StartFault). packed (said a)) g,
  refused_start c.in-Err.fault c.args.first c.args.room.now
      ∙ ap (λ (a : Result (Unit {0}) StartFault). started_by (said a) c.args.first c.args.room.now) g,
)
