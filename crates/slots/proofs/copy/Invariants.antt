-- What is left to copy is the whole of it. Assumes nothing.
use mathlib.Core.Path.{◌≡◌}
use lib.ListN.{drop}
use Rattle.slots.specs.Copied.{copied}
use Rattle.slots.proofs.copy.Given as goal

abbrev pub invariant-loop-at : goal.invariant-loop-at
invariant-loop-at l =
    copied l.marks l.initial.room l.slot l.n l.from (drop l.from l.text) ≡ copied l.marks l.room l.slot l.k l.at (drop l.at l.text)
