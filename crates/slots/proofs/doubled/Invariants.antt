-- What is left to look at is the whole of it. Assumes nothing.
use Prim.Native.Nat.{◌-◌}
use mathlib.Core.Path.{◌≡◌}
use Rattle.slots.specs.Copied.{doubled_from, doubled_in}
use Rattle.slots.proofs.doubled.Given as goal

abbrev pub invariant-loop-k : goal.invariant-loop-k
invariant-loop-k l = doubled_in l.room l.count l.n ≡ doubled_from l.room l.at l.n l.k (l.count - l.k)
