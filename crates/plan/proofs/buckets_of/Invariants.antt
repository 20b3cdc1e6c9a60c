-- `buckets_of` files the steps from the last on. The invariant: those from `place` on are filed. Assumes nothing.
use Rattle.std.proofs.Common.{◌≡◌, take}
use Rattle.plan.proofs.Buckets.{known}
use Rattle.plan.proofs.buckets_of.Given as goal

abbrev pub invariant-loop-place : goal.invariant-loop-place
invariant-loop-place l = l.buckets ≡ known (take l.size l.names) l.place
