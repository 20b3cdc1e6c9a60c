-- `plan_of` puts the plan together of its parts: each callee promises one, and Made says that together they are the plan. Assumes nothing.
use Rattle.std.proofs.Common.{rules}
use Rattle.sets.proofs.Collect.{mask_of_calls}
use Rattle.plan.proofs.Made.{made}
use Rattle.plan.proofs.plan_of.Goals as goal

pub returns : goal.returns
returns c =
    made c.args.query.now c.size_of-size.ensures c.order_of-order.ensures c.names_of-names.ensures c.hung_of-hung.ensures
    (mask_of_calls _ c.collected.ensures (λ t b l e. search rules))
    (mask_of_calls _ c.collected-2.ensures (λ t b l e. search rules))
    (mask_of_calls _ c.collected-3.ensures (λ t b l e. search rules))
    (mask_of_calls _ c.collected-4.ensures (λ t b l e. search rules))
    (mask_of_calls _ c.collected-5.ensures (λ t b l e. search rules))
    c.buckets_of.ensures
