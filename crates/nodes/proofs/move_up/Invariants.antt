-- The invariant says that what is left to move is all of it. Assumes nothing.
use Prim.Native.Nat.{◌≤◌}
use mathlib.Core.Path.{◌≡◌}
use Rattle.node.specs.Node.{queue_in}
use Rattle.plan_bytes.specs.Kept.{kept_in}
use Rattle.nodes.specs.Nodes.{moved_from}
use Rattle.nodes.proofs.move_up.Given as goal

abbrev pub invariant-loop-i : goal.invariant-loop-i
invariant-loop-i l = record {
  ordered : l.end ≤ l.i;
  left :
      moved_from (kept_in l.kept) l.m l.ready l.to l.held l.i l.end (queue_in l.nodes)
      ≡ moved_from (kept_in l.kept) l.m l.ready l.to l.held l.from l.from (queue_in l.initial.nodes);
}
