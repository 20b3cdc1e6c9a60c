-- What is left to compare is the whole of it. Assumes nothing.
use mathlib.Core.Path.{◌≡◌}
use lib.ListN.{drop}
use Rattle.slots.specs.Copied.{agreed}
use Rattle.slots.proofs.agree.Given as goal

abbrev pub invariant-loop-at : goal.invariant-loop-at
invariant-loop-at l = agreed l.room l.slot l.n l.from (drop l.from l.text) ≡ agreed l.room l.slot l.k l.at (drop l.at l.text)
