-- What the numbers decide at an event, and the numbers after it.
--
--   refuse_open n             the lowest refusal of an open that the numbers decide; 0 for none
--   refuse_close n E x        the same for a close of x, by the numbers and the innermost name
--   OpenFits n, CloseFits n  what is known of the numbers where no refusal by them applies
--   open_numbers n held listed, close_numbers n held listed     the numbers after an open, or a close, that handed out `listed` nodes and after which `held`
--                            wait
--
-- Numbers that no calls lead to may be past every limit: an open or a close is then refused too, so that no record is left.
-- Assumes nothing. NOT here: refusals 1 and 15 (crate lent), 11 and the stop (crate stop), 2 and 7 (crate step).
use Rattle.std.specs.Prelude.{ℕ, ◌+◌, ◌-◌, ◌%◌, ◌^◌, ◌<◌, ◌≤◌, not, ◌==◌, nat_le, nat_lt}
use mir.Val.{bool_byte}
use Rattle.choice.specs.When.{when}
use Rattle.meaning.specs.Limits.{depth_limit, held_limit, node_limit}
use Rattle.meaning.specs.Refusals.{after_end, wrong_close, too_deep, too_many_nodes, too_many_held}
use Rattle.element.specs.Element.{Elements, frame_at}
use Rattle.numbers.specs.Numbers.{Numbers, numbers_of}

-- "3: the document element has been closed", "5: an open at depth 256", "6: an open when 16,777,215 nodes have been opened"
unfoldable pub refuse_open : Numbers → ℕ
refuse_open n =
    when (not (n.ended == 0)) after_end
    (when (nat_le depth_limit n.depth) too_deep
    (when (nat_le node_limit n.opened) too_many_nodes
    (when (nat_lt held_limit n.held) too_many_held 0)))

pub record OpenFits (n : Numbers) : Type 0 where
  pub deep : n.depth < depth_limit
  pub few : n.opened < node_limit
  pub held : n.held ≤ held_limit

-- "3: the document element has been closed", "4: a close with nothing open, or with another name than the innermost open element"
unfoldable pub refuse_close : Numbers → Elements → ℕ → ℕ
refuse_close n E x =
    when (not (n.ended == 0)) after_end
    (when (n.depth == 0) wrong_close
    (when (nat_lt depth_limit n.depth) wrong_close
    (when ((frame_at E (n.depth - 1)).name == x) (when (nat_lt held_limit n.held) too_many_held 0) wrong_close)))

pub record CloseFits (n : Numbers) : Type 0 where
  pub some : 0 < n.depth
  pub deep : n.depth ≤ depth_limit
  pub held : n.held ≤ held_limit

unfoldable pub open_numbers : Numbers → ℕ → ℕ → Numbers
open_numbers n held listed = numbers_of (n.depth + 1) held (n.opened + 1) ((n.handed + listed) % 2 ^ 32) 0 n.stopped

unfoldable pub close_numbers : Numbers → ℕ → ℕ → Numbers
close_numbers n held listed =
    numbers_of (n.depth - 1) held n.opened ((n.handed + listed) % 2 ^ 32) (bool_byte (n.depth - 1 == 0)) n.stopped
