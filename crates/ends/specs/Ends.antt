-- One byte of an end tag, or the '>' of an empty one.
--
--   emptied_tick r b           after the '/' of an empty tag
--   closed r                  the innermost element is closed
--   ended_tick M r b           after an end tag's name;  whole_tick M r b: right after it
--   end_tick M r b R           in an end tag's name
--
-- M are the marks of the bytes, R the room. Assumes nothing. NOT here: that these are the machine's steps (crate text_right).
use Rattle.std.specs.Prelude.{ℕ, ◌+◌, ◌-◌, List, eqb, leb, get_or}
use Rattle.choice.specs.When.{when}
use Rattle.limits.specs.declared.TextRefusal.TheVariants.{Misplaced, OtherEnd}
use Rattle.chars.specs.Marks.{marked}
use Rattle.slots.specs.Slots.{base_of, length_in}
use Rattle.modes.specs.declared.Mode.TheVariants as mode
use Rattle.modes.specs.declared.Gives.TheVariants as gives
use Rattle.modes.specs.declared.Reader.{Reader}
use Rattle.modes.specs.Moves.{after_place, stay_in, refuse_with, spell_on, give_out}

unfoldable pub emptied_tick : Reader → ℕ → Reader
emptied_tick r b =
    when (eqb b 62) (when (eqb r.place 0) (give_out r gives.Both mode.Around after_place) (give_out r gives.Both mode.Data r.place))
    (refuse_with r Misplaced)

unfoldable pub closed : Reader → Reader
closed r = when (leb r.place 1) (give_out r gives.Close mode.Around after_place) (give_out r gives.Close mode.Data (r.place - 1))

unfoldable pub ended_tick : List ℕ → Reader → ℕ → Reader
ended_tick M r b = when (marked M b 64) (stay_in r mode.Ended) (when (eqb b 62) (closed r) (refuse_with r Misplaced))

unfoldable pub whole_tick : List ℕ → Reader → ℕ → Reader
whole_tick M r b = when (marked M b 16) (refuse_with r OtherEnd) (when (leb 128 b) (refuse_with r OtherEnd) (ended_tick M r b))

unfoldable pub end_tick : List ℕ → Reader → ℕ → List ℕ → Reader
end_tick M r b R =
    when (eqb r.place 0) (refuse_with r Misplaced)
    (when (leb (length_in R (r.place - 1)) r.n) (whole_tick M r b)
    (when (eqb b (get_or R (base_of (r.place - 1) + r.n) 0)) (spell_on r mode.End r.row (r.n + 1)) (refuse_with r OtherEnd)))
