-- What is left to skip is the whole of it. Assumes nothing.
use Prim.Native.Nat.{◌+◌}
use mathlib.Core.Path.{◌≡◌}
use lib.ListN.{drop}
use Rattle.chars.specs.Marks.{span}
use Rattle.chars.proofs.skip.Given as goal

abbrev pub invariant-loop-i : goal.invariant-loop-i
invariant-loop-i l = l.from + span l.marks l.mark (drop l.from l.text) ≡ l.i + span l.marks l.mark (drop l.i l.text)
