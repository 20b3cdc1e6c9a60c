-- From the last: the invariant says that the nodes passed over wait there. Assumes nothing.
use mathlib.Core.Path.{◌≡◌}
use lib.ListN.{length, take}
use Rattle.engine.specs.Quick.{cut}
use Rattle.node.specs.Node.{queue_in}
use Rattle.nodes.specs.Nodes.{level_of}
use Rattle.nodes.proofs.suffix.Given as goal

abbrev pub invariant-loop-i : goal.invariant-loop-i
invariant-loop-i l = length (cut level_of l.level (take l.i (queue_in l.nodes).list)).before
    ≡ length (cut level_of l.level (take l.held (queue_in l.nodes).list)).before
