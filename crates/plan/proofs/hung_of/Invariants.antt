-- `hung_of` puts the set of the predicate steps that hang on the step at each place into its slot. The invariant: the slots under `place`
-- are filled so, the others are 0. Assumes nothing.
use Rattle.std.proofs.Common.{◌≡◌, ◌+◌, get_or}
use Rattle.meaning.specs.Query.{hangs}
use Rattle.sets.specs.Set.{mask_of}
use Rattle.plan.specs.Planned.{step_at, padded}
use Rattle.plan.proofs.hung_of.Given as goal

abbrev pub invariant-loop-place : goal.invariant-loop-place
invariant-loop-place l =
    l.hung ≡ padded l.place (λ t. mask_of l.size (λ u. hangs (step_at l.query (get_or l.order u 0)) (get_or l.order t 0 + 1)))
