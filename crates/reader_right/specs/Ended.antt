-- The end of a text.
--
--   is_after s            the state s is the one behind a whole document
--
-- Assumes nothing. What is shown of them is in proofs/Ended.
use Rattle.std.specs.Prelude.{Bool}
use Rattle.std.proofs.Math.Bool.{true, false}
use Rattle.xml.specs.Grammar.{b0, b1, b2}
use Rattle.xml.specs.Machine.{Place, State}

unfoldable pub is_after : State → Bool
is_after State.start = false
is_after State.fresh = false
is_after State.opening = false
is_after State.declared = false
is_after (State.rows rs q es s) = false
is_after (State.at Place.before k) = false
is_after (State.at (Place.inside n ns) k) = false
is_after (State.at Place.after b0) = true
is_after (State.at Place.after b1) = false
is_after (State.at Place.after b2) = false
is_after (State.markup p) = false
is_after (State.bang p) = false
is_after (State.note p) = false
is_after (State.dash p) = false
is_after (State.amper s) = false
is_after (State.tag p n) = false
is_after (State.tagged p n ms) = false
is_after (State.gap p n ms) = false
is_after (State.att p n ms m) = false
is_after (State.eqs p n ms m) = false
is_after (State.val p n ms m) = false
is_after (State.value p n ms m q) = false
is_after (State.ending n ns) = false
is_after (State.ended n ns) = false
is_after (State.told k) = false
is_after (State.apiece o) = false
is_after (State.part_eq o k) = false
is_after (State.part_val o k) = false
