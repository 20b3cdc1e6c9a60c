-- One byte of a start tag or an empty one, from its name on, and what stands in the room after it.
--
--   name_byte r b R slot m         one byte more of a name, into its slot
--   tag_end r b                    its '>' or '/'
--   tag_tick, tagged_tick, gap_tick  in the tag's name; after its last attribute; after a blank
--   att_begun, att_tick, named_tick  the first byte of an attribute's name; a later one; the name is whole
--   equals_tick, value_tick         before its '='; before its value
--   quoted_tick M r b mark q, att_ended      in its value in the quotes q, where the bytes with the mark stay; after it
--
-- M are the marks of the bytes, R the room. Assumes nothing. NOT here: that these are the machine's steps (crate text_right).
use Rattle.std.specs.Prelude.{ℕ, ◌+◌, List, eqb, leb, ltb, set}
use Rattle.choice.specs.When.{when}
use Rattle.meaning.specs.Limits.{depth_limit}
use Rattle.xml.specs.Bounds.{name_limit, attribute_limit}
use Rattle.limits.specs.declared.TextRefusal.TheVariants.{Misplaced, ForeignName, LongName, ManyAttributes, Twice}
use Rattle.chars.specs.Marks.{marked}
use Rattle.slots.specs.Slots.{base_of, name_bytes, attribute_slot}
use Rattle.slots.specs.Copied.{doubled_in}
use Rattle.modes.specs.declared.Mode.{Mode}
use Rattle.modes.specs.declared.Mode.TheVariants as mode
use Rattle.modes.specs.declared.Gives.TheVariants as gives
use Rattle.modes.specs.declared.Reader.{Reader}
use Rattle.modes.specs.Moves.{go_to, stay_in, refuse_with, spell_on, go_aside, give_out, count_to}
use Rattle.content.specs.Text.{wide_tick}
use Rattle.tags.specs.Markup.{Ticked, kept}

unfoldable pub name_byte : Reader → ℕ → List ℕ → ℕ → Mode → Ticked
name_byte r b R slot m = when (leb name_limit r.n) (kept (refuse_with r LongName) R) (kept (spell_on r m r.row (r.n + 1)) (set R (base_of slot + r.n) b))

unfoldable pub tag_end : Reader → ℕ → Reader
tag_end r b =
    when (eqb b 47) (go_to r mode.Slash)
    (when (eqb b 62) (when (leb depth_limit r.place) (refuse_with r Misplaced) (give_out r gives.Open mode.Data (r.place + 1))) (refuse_with r Misplaced))

-- the room with the name's length in its slot
abbrev pub measured : Reader → List ℕ → ℕ → List ℕ
measured r R slot = set R (base_of slot + name_bytes) r.n

unfoldable pub tag_tick : List ℕ → Reader → ℕ → List ℕ → Ticked
tag_tick M r b R =
    when (marked M b 16) (name_byte r b R r.place mode.Tag)
    (when (marked M b 64) (kept (count_to r mode.Gap 0) (measured r R r.place))
    (when (leb 128 b) (kept (refuse_with r ForeignName) R)
    (when (eqb b 62) (kept (tag_end r b) (measured r R r.place))
    (when (eqb b 47) (kept (tag_end r b) (measured r R r.place)) (kept (refuse_with r Misplaced) R)))))

unfoldable pub tagged_tick : List ℕ → Reader → ℕ → Reader
tagged_tick M r b = when (marked M b 64) (stay_in r mode.Gap) (tag_end r b)

unfoldable pub att_begun : Reader → ℕ → List ℕ → Ticked
att_begun r b R =
    when (leb attribute_limit r.count) (kept (refuse_with r ManyAttributes) R)
    (kept (spell_on r mode.Att 0 1) (set R (base_of (attribute_slot + r.count) + 0) b))

unfoldable pub gap_tick : List ℕ → Reader → ℕ → List ℕ → Ticked
gap_tick M r b R =
    when (marked M b 32) (att_begun r b R)
    (when (marked M b 64) (kept (stay_in r mode.Gap) R) (when (leb 128 b) (kept (refuse_with r ForeignName) R) (kept (tag_end r b) R)))

unfoldable pub named_tick : Reader → List ℕ → Mode → Ticked
named_tick r R m =
    when (ltb name_bytes r.n) (kept (refuse_with r Misplaced) R)
    (when (doubled_in R r.count r.n) (kept (refuse_with r Twice) R) (kept (go_to r m) (measured r R (attribute_slot + r.count))))

unfoldable pub att_tick : List ℕ → Reader → ℕ → List ℕ → Ticked
att_tick M r b R =
    when (marked M b 16) (name_byte r b R (attribute_slot + r.count) mode.Att)
    (when (marked M b 64) (named_tick r R mode.Equals)
    (when (eqb b 61) (named_tick r R mode.Value) (when (leb 128 b) (kept (refuse_with r ForeignName) R) (kept (refuse_with r Misplaced) R))))

unfoldable pub equals_tick : List ℕ → Reader → ℕ → Reader
equals_tick M r b = when (marked M b 64) (stay_in r mode.Equals) (when (eqb b 61) (go_to r mode.Value) (refuse_with r Misplaced))

unfoldable pub value_tick : List ℕ → Reader → ℕ → Reader
value_tick M r b =
    when (marked M b 64) (stay_in r mode.Value)
    (when (eqb b 34) (go_to r mode.Double) (when (eqb b 39) (go_to r mode.Single) (refuse_with r Misplaced)))

unfoldable pub att_ended : Reader → Reader
att_ended r = when (leb attribute_limit r.count) (refuse_with r Misplaced) (count_to r mode.Tagged (r.count + 1))

unfoldable pub quoted_tick : List ℕ → Reader → ℕ → ℕ → ℕ → Reader
quoted_tick M r b mark q =
    when (marked M b mark) (stay_in r r.mode)
    (when (eqb b q) (att_ended r)
    (when (eqb b 38) (go_aside r mode.Amper 0 r.mode) (when (eqb b 60) (refuse_with r Misplaced) (wide_tick r b r.mode))))
