-- What a stop is, over any calls: request C-12.
--
--   Faulted a              the answer a is one of the refusals 2 to 7
--   Stopping as'           one of the answers as' is one of them
--   TurnedAway a           the answer a is refusal 1, 15 or 11
--
-- Assumes nothing. What is shown of them is in proofs/Answer/Stop.
use Rattle.std.specs.Prelude.{ℕ, ◌≤◌, ◌⊎◌, ◌≡◌}
use mathlib.Core.List.{List, Memᴰ}
use Rattle.meaning.specs.Answer.{Answer, refused}

abbrev pub Faulted : Answer → Type 0
Faulted a = (r : ℕ) × (a ≡ refused r) × (2 ≤ r) × (r ≤ 7)

abbrev pub Stopping : List Answer → Type 0
Stopping as' = (r : ℕ) × Memᴰ (refused r) as' × (2 ≤ r) × (r ≤ 7)

abbrev pub TurnedAway : Answer → Type 0
TurnedAway a = (a ≡ refused 1) ⊎ ((a ≡ refused 15) ⊎ (a ≡ refused 11))
