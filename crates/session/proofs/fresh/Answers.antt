-- A packed plan and numbers that are 0. Assumes nothing.
use mathlib.Core.Path.{ap}
use mathlib.Core.Bool.{false}
use mathlib.Core.List.{List}
use Prim.Native.Nat.{ℕ}
use Rattle.session.specs.Begin.{fresh}
use Rattle.session.proofs.fresh.Goals as goal

pub returns : goal.returns
unfolding fresh
returns c =
    ap (λ (k : List ℕ). record { kept = k; depth = 0; held = 0; opened = 0; handed = 0; ended = false; stopped = false }) c.pack-kept.ensures
