-- `put_number` puts the numeral, the last digit first. The invariant: what is left of the number, put into the text as it stands, makes it what it has to be.
-- Assumes nothing.
use Rattle.std.proofs.Common.{◌≡◌, ◌+◌, length}
use Rattle.std.proofs.lemmas.List.Edits.{sets}
use Rattle.lines.specs.Decimal.{decimal}
use Rattle.lines.proofs.put_number.Given as goal

abbrev pub invariant-loop-i : goal.invariant-loop-i
invariant-loop-i l = (l.i ≡ l.at + length (decimal l.rest)) × (sets l.text l.at (decimal l.rest) ≡ sets l.initial.text l.at (decimal l.n))
