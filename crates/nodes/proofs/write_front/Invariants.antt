-- The invariant says which records stand already. Assumes nothing.
use mathlib.Core.Path.{◌≡◌}
use lib.ListN.{take}
use Rattle.records.specs.Write.{buffer}
use Rattle.node.specs.Node.{queue_in}
use Rattle.nodes.specs.Nodes.{numbers}
use Rattle.nodes.proofs.write_front.Given as goal

abbrev pub invariant-loop-i : goal.invariant-loop-i
invariant-loop-i l = l.out ≡ buffer (numbers (take l.i (queue_in l.nodes).list)) l.initial.out
