-- The invariant says how many are certain from here on. Assumes nothing.
use Prim.Native.Nat.{◌+◌}
use mathlib.Core.Path.{◌≡◌}
use lib.ListN.{take, drop}
use Rattle.engine.specs.Quick.{certain, counted}
use Rattle.element.specs.Element.{elements_in}
use Rattle.node.specs.Node.{queue_in}
use Rattle.plan_bytes.specs.Kept.{kept_in}
use Rattle.nodes.proofs.front.Given as goal

abbrev pub invariant-loop-i : goal.invariant-loop-i
invariant-loop-i l =
    l.i + counted (certain (kept_in l.kept) (take l.depth (elements_in l.elements).list)) (drop l.i (take l.held (queue_in l.nodes).list))
    ≡ counted (certain (kept_in l.kept) (take l.depth (elements_in l.elements).list)) (take l.held (queue_in l.nodes).list)
