-- `bucket` takes four bytes a turn. The invariant: what is still to be mixed gives the whole.
-- Assumes nothing.
use Prim.Native.Nat.{◌-◌, ◌/◌, ◌<◌}
use mathlib.Core.Path.{◌≡◌}
use Rattle.spelling.specs.Bucket.{mix_limit, mixed_from}
use Rattle.spelling.proofs.bucket.Given as goal

abbrev pub invariant-loop-i : goal.invariant-loop-i
invariant-loop-i l = ((l.i < l.n) × (l.h < mix_limit)) × (mixed_from l.word ((l.n - 1 - l.i) / 4) l.i l.h ≡ mixed_from l.word ((l.n - 1) / 4) 0 0)
