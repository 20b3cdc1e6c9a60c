-- Each call answers the test of its step. Assumes nothing.
use Rattle.std.proofs.Common.{rules, ℕ, ◌≡◌}
use lib.Bits.{bit_and}
use lib.ListN.{get_or, length}
use Rattle.sets.specs.Set.{covers, mask_of}
use Rattle.sets.proofs.Collect.{mask_of_calls}
use Rattle.plan.specs.Plan.{Plan, meets}
use Rattle.elements.proofs.meets.Goals as goal

-- the steps with the right predicates below, by how many steps there are
met : (P : Plan) (pass below n hit : ℕ) → n ≡ length P.tests → hit ≡ mask_of n (λ t. covers below (get_or P.hung t 0)) → bit_and hit pass ≡ meets P pass below
unfolding meets
met P pass below n hit e h = rw (h, e)

pub returns : goal.returns
unfolding covers
returns c = met _ _ _ _ _ c.size.ensures.0 (mask_of_calls _ c.collected-hit.ensures (λ t b l e. search rules))
