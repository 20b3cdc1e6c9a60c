-- What is left to read is the whole of it. Assumes nothing.
use Prim.Native.Nat.{◌+◌, ◌-◌, ◌*◌, ◌≤◌}
use mathlib.Core.Path.{◌≡◌}
use mir.Val.{bool_byte}
use lib.Dec.{eqb}
use lib.ListN.{length}
use Rattle.reader.specs.Fed.{begun_with}
use Rattle.reader.specs.Fed.Laws.{Left}
use Rattle.reader.proofs.read_on.Given as goal

abbrev pub invariant-loop-marks : goal.invariant-loop-marks
invariant-loop-marks l =
    (l.at ≤ length l.text)
    × (l.written ≤ length l.out)
    × (length l.room ≡ length l.initial.room)
    × (length l.out ≡ length l.initial.out)
    × Left l.names l.index l.text (begun_with l.initial.r l.initial.room l.initial.out)
    (record { reader = l.r; at = l.at; room = l.room; out = l.out; written = l.written })

abbrev pub decreases-loop-marks : goal.decreases-loop-marks
decreases-loop-marks l = 2 * (length l.text - l.at) + bool_byte (eqb l.r.refusal 0)
