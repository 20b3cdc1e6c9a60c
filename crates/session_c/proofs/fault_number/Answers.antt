-- The room, or the query. Assumes nothing.
use Rattle.std.proofs.Common.{ap, sym, ◌∙◌, Err}
use Rattle.query_c.specs.Packed.{packed}
use Rattle.session.specs.declared.StartFault.{StartFault}
use Rattle.session.specs.Begin.{said}
use Rattle.session_c.proofs.fault_number.Goals as goal

pub returns-in-ShortRoom : goal.returns-in-ShortRoom
unfolding packed said
returns-in-ShortRoom c = c.number.ensures ∙ ap (λ (f : StartFault). packed (said (Err f))) (sym c.in-ShortRoom.is)

pub returns-in-Query : goal.returns-in-Query
unfolding said
returns-in-Query c = c.pack.ensures ∙ ap (λ (f : StartFault). packed (said (Err f))) (sym c.in-Query.is)
