-- The answer of an event as a number, by what it came to.
--
--   event_number refusal listed      the answer of an event that came to this, as a number
--
-- Assumes nothing. NOT here: that an event on the session's bytes is one on the session in them (proofs/Exported/Offered).
use Rattle.std.specs.Prelude.{ℕ, ◌*◌, eqb}
use Rattle.choice.specs.When.{when}

unfoldable pub event_number : ℕ → ℕ → ℕ
event_number refusal listed = when (eqb refusal 0) (256 * listed) refusal
