-- Numbers in lent bytes may say by any value that is not 0 that the document element has been closed and that the session is stopped, those of a session say
-- it by 1: an event asks no more than whether they are 0.
--
--   saying k j n          the numbers n, with k and j for those two
--   OfferedAlike          with others that are 0 in the same cases the refusal is the same, and if that is 0 so is everything
--
-- Assumes nothing. Shown in proofs/Alike.
use Rattle.std.specs.Prelude.{ℕ, ◌≡◌, List, eqb}
use Rattle.plan.specs.Plan.{Plan}
use Rattle.numbers.specs.Numbers.{Numbers, numbers_of}
use Rattle.feed.specs.Steps.{seat}
use Rattle.offer.specs.Offer.{offered}

abbrev pub saying : ℕ → ℕ → Numbers → Numbers
saying k j n = numbers_of n.depth n.held n.opened n.handed k j

abbrev pub OfferedAlike : Plan → Numbers → ℕ → ℕ → List ℕ → List ℕ → List ℕ → List ℕ → Type 0
OfferedAlike P n k j E N bytes out =
    (so : eqb k 0 ≡ eqb n.ended 0) → (st : eqb j 0 ≡ eqb n.stopped 0) →
    ((offered P (seat (saying k j n) E N) bytes out).refusal ≡ (offered P (seat n E N) bytes out).refusal) ×
    ((offered P (seat n E N) bytes out).refusal ≡ 0 → offered P (seat (saying k j n) E N) bytes out ≡ offered P (seat n E N) bytes out)
