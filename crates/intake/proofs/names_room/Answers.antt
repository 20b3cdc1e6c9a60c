-- `intake::names_room` meets its contract. Assumes nothing.
use Prim.Native.Nat.{ℕ}
use mathlib.Core.Path.{◌≡◌}
use lib.ListN.{length, replicate, length-replicate}
use Rattle.intake.proofs.names_room.Goals as goal

-- with the length as a variable
zeros : (n : ℕ) → length {A = ℕ} (replicate {A = ℕ} n 0) ≡ n
zeros n = length-replicate n 0

pub returns : goal.returns
returns c = zeros 4259646
