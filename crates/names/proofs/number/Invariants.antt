-- `number` walks along a chain. The invariant: what is found from here on is the number.
-- Assumes nothing.
use Prim.Native.Nat.{◌-◌}
use mathlib.Core.Path.{◌≡◌}
use Rattle.xml.specs.Bounds.{list_limit}
use Rattle.names.specs.Number.{walked, number_of}
use Rattle.names.proofs.number.Given as goal

abbrev pub invariant-loop : goal.invariant-loop
invariant-loop l = walked l.names l.index l.word (list_limit - l.counter) l.place ≡ number_of l.names l.index l.word
