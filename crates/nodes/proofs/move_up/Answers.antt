-- The invariant says that what is left to move is all of it. Assumes nothing.
use native.Mathlib.Omega.{arith}
use mathlib.Core.Path.{◌∙◌}
use native.Mathlib.Nat.{le_trans}
use Rattle.nodes.specs.Nodes.Laws.{kept_held, move_step}
use Rattle.nodes.proofs.move_up.Goals as goal

pub loop-i-preserved : goal.loop-i-preserved
loop-i-preserved c =
    record {
      ordered = le_trans (kept_held _ _ _ _ _ _ _ c.keep_if-end.ensures).1 (omega arith);
      left =
          move_step _ _ _ _ _ _ _ _ c.requires.1 c.loop-i.invariant.ordered c.loop-i-test.true _ _ _ _ c.get-x.ensures
          c.get.ensures c.up-need.ensures c.keep_if-end.ensures ∙ c.loop-i.invariant.left;
    }
