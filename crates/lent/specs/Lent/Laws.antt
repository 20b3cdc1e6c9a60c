-- What a refusal for what is lent says.
--
--   room_fits    where the room is not refused it is not too small
--   room_short     where the room is refused it is too small
--
-- Assumes nothing.
use Rattle.std.specs.Prelude.{ℕ, ◌≡◌, refl, Bool, true, false}
use Rattle.choice.specs.When.{when}
use Rattle.meaning.specs.Answer.{too_small}
use Rattle.meaning.proofs.Answer.Laws.{not_small}
use Rattle.meaning.specs.Refusals.{short_room}
use Rattle.lent.specs.Lent.{refuse_room, RoomFits}

pub room_fits : (elements nodes : ℕ) → RoomFits elements nodes → too_small elements nodes ≡ false
room_fits elements nodes fits = not_small elements nodes fits.deep fits.held

by_test : (b : Bool) (r : ℕ) → r ≡ when b short_room 0 → (r ≡ 0 → ⊥) → (r ≡ short_room) × (b ≡ true)
unfolding when
by_test true r e f = (e, refl)
by_test false r e f = absurd (f e)

pub room_short : (elements nodes r : ℕ) → r ≡ refuse_room elements nodes → (r ≡ 0 → ⊥) → (r ≡ short_room) × (too_small elements nodes ≡ true)
unfolding refuse_room
room_short elements nodes r e f = by_test _ r e f
