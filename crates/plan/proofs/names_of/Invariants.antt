-- `names_of` puts the name test of the step at each place into its slot. The invariant: the slots under `place` are filled so, the others
-- are 0. Assumes nothing.
use Rattle.std.proofs.Common.{◌≡◌, get_or}
use Rattle.plan.specs.Planned.{step_at, padded}
use Rattle.plan.proofs.names_of.Given as goal

abbrev pub invariant-loop-place : goal.invariant-loop-place
invariant-loop-place l = l.names ≡ padded l.place (λ t. (step_at l.query (get_or l.order t 0)).name)
