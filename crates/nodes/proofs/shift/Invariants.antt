-- The invariant says that what is left to move is all of it. Assumes nothing.
use mathlib.Core.Path.{◌≡◌}
use Rattle.node.specs.Node.{queue_in}
use Rattle.nodes.specs.Nodes.{shifted}
use Rattle.nodes.proofs.shift.Given as goal

abbrev pub invariant-loop-i : goal.invariant-loop-i
invariant-loop-i l = shifted l.k l.held l.i (queue_in l.nodes) ≡ shifted l.k l.held 0 (queue_in l.initial.nodes)
