-- The numbers of the open elements' names, which are kept beside them in their slots.
--
--   Counted f R d          each slot below d has the number of its name by f
--
-- Assumes nothing. What is shown of them is in proofs/Counted.
use Rattle.std.specs.Prelude.{ℕ, ◌<◌, ◌≡◌, List}
use Rattle.slots.specs.Slots.{name_in, number_in}

pub record Counted (f : List ℕ → ℕ) (R : List ℕ) (d : ℕ) : Type 0 where
  pub each : (s : ℕ) → s < d → number_in R s ≡ f (name_in R s)
