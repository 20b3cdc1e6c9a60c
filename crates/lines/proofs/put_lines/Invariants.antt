-- `put_lines` puts a line for each list record. The invariant: so many lines are put.
-- Assumes nothing.
use Rattle.lines.specs.Put.{Put}
use Rattle.lines.specs.Text.{lines_of, nodes_in}
use Rattle.lines.proofs.put_lines.Given as goal

abbrev pub invariant-loop-i : goal.invariant-loop-i
invariant-loop-i l = Put l.initial.text 0 (lines_of (nodes_in l.i l.records)) l.text l.end
