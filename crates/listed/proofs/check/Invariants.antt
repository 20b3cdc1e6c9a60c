-- `check` goes through the lines; the first at fault decides. The invariant: the answer to the lines from here on is that to the list.
-- Assumes nothing.
use Prim.Native.Nat.{◌+◌, ◌-◌, ◌≤◌}
use mathlib.Core.Path.{◌≡◌}
use lib.ListN.{length, drop}
use Rattle.xml.specs.Bounds.{list_limit}
use Rattle.listed.specs.Lines.{lines_of}
use Rattle.listed.specs.Listed.{answer_from, list_answer}
use Rattle.listed.proofs.check.Given as goal

abbrev pub invariant-loop-at : goal.invariant-loop-at
invariant-loop-at l = (l.place ≤ list_limit + 1) × (answer_from l.place (lines_of (drop l.at l.names)) ≡ list_answer l.names)

abbrev pub decreases-loop-at : goal.decreases-loop-at
decreases-loop-at l = length l.names - l.at
