-- `width` counts the digits of the numeral by the logarithm; 0 has one. Assumes nothing.
use Rattle.std.proofs.Common.{arith}
use Rattle.lines.proofs.Decimal.Laws.{length_single, length_log}
use Rattle.lines.proofs.width.Goals as goal

pub returns : goal.returns
returns c = grind (arith, length_single, length_log)
