-- What the calls give together, where all go and where the new node joins. Assumes nothing.
use native.Mathlib.Omega.{arith}
use Rattle.nodes.specs.Nodes.Laws.{join_all, join_alive}
use Rattle.nodes.proofs.join.Goals as goal

pub returns-then-all-clause-out_after : goal.returns-then-all-clause-out_after
returns-then-all-clause-out_after c =
    join_all _ _ _ _ _ _ _ _ c.if-all.true (omega arith) (omega arith) c.write_front.ensures c.put_node.ensures

pub returns-then-joins-clause-out_after : goal.returns-then-joins-clause-out_after
returns-then-joins-clause-out_after c = join_alive _ _ _ _ _ _ _ c.if-all.false c.hand_out.ensures _ c.if-joins.true c.write.ensures
