-- One byte of a tag, and what stands in the room after it.
--
--   Ticked                               the reader and its room
--   begun, slashed_tick                   the first byte of an element's name; the '/' of an end tag
--   markup_tick M r b R, first_tick        after '<'; at the very start of the text
--
-- M are the marks of the bytes, R the room. Assumes nothing. NOT here: that these are the machine's steps (crate text_right).
use Rattle.std.specs.Prelude.{ℕ, ◌+◌, List, eqb, leb, ltb, set}
use Rattle.choice.specs.When.{when}
use Rattle.meaning.specs.Limits.{depth_limit}
use Rattle.limits.specs.declared.TextRefusal.TheVariants.{Misplaced, Instruction, ForeignName, Nested}
use Rattle.chars.specs.Marks.{marked}
use Rattle.slots.specs.Slots.{base_of}
use Rattle.modes.specs.declared.Mode.TheVariants as mode
use Rattle.modes.specs.declared.Prolog.TheVariants as prolog
use Rattle.modes.specs.declared.Reader.{Reader}
use Rattle.modes.specs.Moves.{after_place, go_to, refuse_with, spell_on}

pub record Ticked : Type 0 where
  pub reader : Reader
  pub room : List ℕ

-- nothing is written into the room
abbrev pub kept : Reader → List ℕ → Ticked
kept r R = record { reader = r; room = R }

unfoldable pub begun : Reader → ℕ → List ℕ → Ticked
begun r b R =
    when (eqb r.place after_place) (kept (refuse_with r Misplaced) R)
    (when (leb depth_limit r.place) (kept (refuse_with r Nested) R) (kept (spell_on r mode.Tag 0 1) (set R (base_of r.place + 0) b)))

unfoldable pub slashed_tick : Reader → Reader
slashed_tick r = when (eqb r.place 0) (refuse_with r Misplaced) (when (ltb depth_limit r.place) (refuse_with r Misplaced) (go_to r mode.End))

unfoldable pub markup_tick : List ℕ → Reader → ℕ → List ℕ → Ticked
markup_tick M r b R =
    when (marked M b 32) (begun r b R)
    (when (eqb b 33) (kept (spell_on r mode.Bang 0 2) R)
    (when (eqb b 47) (kept (slashed_tick r) R)
    (when (eqb b 63) (kept (refuse_with r Instruction) R)
    (when (ltb b 128) (kept (refuse_with r Misplaced) R)
    (when (eqb r.place after_place) (kept (refuse_with r Misplaced) R) (kept (refuse_with r ForeignName) R))))))

unfoldable pub first_tick : List ℕ → Reader → ℕ → List ℕ → Ticked
first_tick M r b R = when (eqb b 63) (kept (spell_on r (mode.Prolog prolog.Xml) 0 2) R) (markup_tick M r b R)
