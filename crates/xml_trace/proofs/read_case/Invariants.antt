-- `read_case` is safe and ends. Assumes nothing.
use Rattle.xml_trace.proofs.read_case.Given as goal

abbrev pub decreases-loop-left : goal.decreases-loop-left
decreases-loop-left l = l.left
