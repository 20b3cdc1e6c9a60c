-- `order_of` gives each step its place, from the last step on. The invariant: the steps after the first `left` have theirs, and so many of
-- them as `mains` says are on the main path. Assumes nothing.
use Rattle.std.proofs.Common.{◌≡◌, ◌+◌, ◌-◌, ◌≤◌}
use Rattle.plan.proofs.Laying.{laid, mains}
use Rattle.plan.proofs.order_of.Given as goal

abbrev pub invariant-loop-left : goal.invariant-loop-left
invariant-loop-left l =
    (l.mains + l.left ≤ l.size) × (l.order ≡ laid l.query l.left (l.size - l.left)) × (l.mains ≡ mains l.query l.left (l.size - l.left))
