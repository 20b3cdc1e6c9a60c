-- `put_line` puts the numeral and one byte behind it; the line is that much longer. Assumes nothing.
use native.Mathlib.Omega.{arith}
use Rattle.lines.proofs.Put.Laws.{put_one, put_then}
use Rattle.lines.proofs.Text.Laws.{length_line}
use Rattle.lines.proofs.put_line.Goals as goal

pub put_number-end-requires : goal.put_number-end-requires
put_number-end-requires c = omega (arith, length_line c.args.n)

pub bounds-text-end : goal.bounds-text-end
bounds-text-end c = omega (arith, length_line c.args.n)

pub overflow_add-result : goal.overflow_add-result
overflow_add-result c = omega (arith, length_line c.args.n)

pub returns : goal.returns
returns c = put_then c.put_number-end.ensures (put_one _ _ 10)
