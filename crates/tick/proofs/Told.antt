-- A byte is refused with a refusal of text and with no other number.
--
--   Told r                  the number in r is that of a refusal of text, or 0
--   number_told             the number of a refusal is
--   on, stops               the reader goes on, or is stopped by a refusal
--   either, either_kept      one of two readers, alone or beside the room
--   around_told, ..         the reader after a byte, case by case
--   tick_told               the reader after a byte
--
-- Assumes nothing.
use Rattle.std.specs.Prelude.{ℕ, ◌+◌, ◌≡◌, refl, Bool, true, false, List}
use Rattle.std.proofs.Common.{sym, ap, ◌∙◌}
use Rattle.choice.specs.When.{when, when_either}
use Rattle.limits.specs.declared.TextRefusal.{TextRefusal}
use Rattle.limits.specs.declared.TextRefusal.TheVariants.{Misplaced, NotChar, Doctype, Instruction, Cdata, CharReference, OtherEntity, LongName}
use Rattle.limits.specs.declared.TextRefusal.TheVariants.{ManyAttributes, Twice, OtherEnd, Nested, OtherEncoding, ForeignName, Unended, Scant, ReaderStopped}
use Rattle.limits.specs.declared.TextRefusal.TheVariants.{ManyNames, LongListed, NotName}
use Rattle.limits.specs.Number.{text_number, text_of}
use Rattle.limits.specs.Number.Laws.{text_at}
use Rattle.slots.specs.Slots.{attribute_slot}
use Rattle.modes.specs.declared.Mode.{Mode}
use Rattle.modes.specs.declared.Mode.TheVariants as mode
use Rattle.modes.specs.declared.Prolog.{Prolog}
use Rattle.modes.specs.declared.Prolog.TheVariants as prolog
use Rattle.modes.specs.declared.Reader.{Reader}
use Rattle.prolog.specs.Around.{around, start_tick, mark_tick, xml_tick, declared_tick, query_tick}
use Rattle.prolog.specs.Tick.{prolog_tick}
use Rattle.prolog.specs.Told.{value_row, value_refusal, piece_tick, blank_or, told_tick, part_tick, part_equals_tick, part_value_tick, quoted_in}
use Rattle.prolog.specs.Told.{quoted_tick as part_quoted_tick}
use Rattle.content.specs.Text.{wide_tick, char_tick, data_tick, bang_tick, note_tick, remarked_tick, entity_tick, amper_tick}
use Rattle.tags.specs.Markup.{Ticked, begun, slashed_tick, markup_tick, first_tick}
use Rattle.tags.specs.Tag.{name_byte, tag_end, tag_tick, tagged_tick, att_begun, gap_tick, named_tick, att_tick, equals_tick, value_tick, att_ended}
use Rattle.tags.specs.Tag.{quoted_tick}
use Rattle.ends.specs.Ends.{emptied_tick, closed, ended_tick, whole_tick, end_tick}
use Rattle.tick.specs.Tick.{tick_in, tick}

pub record Told (r : Reader) : Type 0 where
  pub back : text_of (text_at r.refusal) ≡ r.refusal

number_told : (x : TextRefusal) → text_of (text_at (text_number x)) ≡ text_number x
unfolding text_at
number_told Misplaced = refl
number_told NotChar = refl
number_told Doctype = refl
number_told Instruction = refl
number_told Cdata = refl
number_told CharReference = refl
number_told OtherEntity = refl
number_told LongName = refl
number_told ManyAttributes = refl
number_told Twice = refl
number_told OtherEnd = refl
number_told Nested = refl
number_told OtherEncoding = refl
number_told ForeignName = refl
number_told Unended = refl
number_told Scant = refl
number_told ReaderStopped = refl
number_told ManyNames = refl
number_told LongListed = refl
number_told NotName = refl

pub on : {r : Reader} → r.refusal ≡ 0 → Told r
unfolding text_at
on e = record { back = ap (λ n. text_of (text_at n)) e ∙ sym e }

stops : {r : Reader} (x : TextRefusal) → r.refusal ≡ text_number x → Told r
stops x e = record { back = ap (λ n. text_of (text_at n)) e ∙ number_told x ∙ sym e }

either : (t : Bool) (a b : Reader) → Told a → Told b → Told (when t a b)
either = when_either Told

either_kept : (t : Bool) (a b : Ticked) → Told a.reader → Told b.reader → Told (when t a b).reader
either_kept = when_either (λ (x : Ticked). Told x.reader)

-- in the prolog

pub around_told : (M : List ℕ) (r : Reader) (b : ℕ) (next : Mode) → Told (around M r b next)
unfolding around
around_told M r b next = either _ _ _ (on refl) (either _ _ _ (on refl) (stops Misplaced refl))

start_tick_told : (M : List ℕ) (r : Reader) (b : ℕ) → Told (start_tick M r b)
unfolding start_tick
start_tick_told M r b = either _ _ _ (on refl) (around_told M r b mode.First)

mark_tick_told : (r : Reader) (b : ℕ) → Told (mark_tick r b)
unfolding mark_tick
mark_tick_told r b = either _ _ _ (either _ _ _ (on refl) (stops Misplaced refl)) (either _ _ _ (on refl) (stops Misplaced refl))

xml_tick_told : (r : Reader) (b : ℕ) → Told (xml_tick r b)
unfolding xml_tick
xml_tick_told r b = either _ _ _ (stops Instruction refl) (either _ _ _ (either _ _ _ (on refl) (on refl)) (stops Instruction refl))

declared_tick_told : (M : List ℕ) (r : Reader) (b : ℕ) → Told (declared_tick M r b)
unfolding declared_tick
declared_tick_told M r b = either _ _ _ (on refl) (either _ _ _ (stops Instruction refl) (either _ _ _ (stops Instruction refl) (stops Misplaced refl)))

query_tick_told : (r : Reader) (b : ℕ) → Told (query_tick r b)
unfolding query_tick
query_tick_told r b = either _ _ _ (on refl) (stops Misplaced refl)

piece_tick_told : (M : List ℕ) (r : Reader) (b : ℕ) → Told (piece_tick M r b)
unfolding piece_tick
piece_tick_told M r b =
    either _ _ _ (on refl) (either _ _ _ (either _ _ _ (on refl) (stops Misplaced refl)) (either _ _ _ (on refl) (either _ _ _
    (either _ _ _ (on refl) (stops Misplaced refl)) (either _ _ _ (either _ _ _ (on refl) (stops Misplaced refl)) (stops Misplaced refl)))))

blank_or_told : (M : List ℕ) (r : Reader) (b : ℕ) (blank : Prolog) (mark : ℕ) (next : Prolog) → Told (blank_or M r b blank mark next)
blank_or_told M r b blank mark next = either _ _ _ (on refl) (either _ _ _ (on refl) (stops Misplaced refl))

told_tick_told : (M : List ℕ) (r : Reader) (b : ℕ) → Told (told_tick M r b)
unfolding told_tick
told_tick_told M r b = blank_or_told M r b prolog.Piece 63 prolog.Query

part_tick_told : (r : Reader) (b : ℕ) → Told (part_tick r b)
unfolding part_tick
part_tick_told r b =
    either _ _ _ (stops Misplaced refl) (either _ _ _ (stops Misplaced refl) (either _ _ _ (either _ _ _ (on refl) (on refl)) (stops Misplaced refl)))

part_equals_tick_told : (M : List ℕ) (r : Reader) (b : ℕ) → Told (part_equals_tick M r b)
unfolding part_equals_tick
part_equals_tick_told M r b = blank_or_told M r b prolog.PartEquals 61 prolog.PartValue

part_value_tick_told : (M : List ℕ) (r : Reader) (b : ℕ) → Told (part_value_tick M r b)
unfolding part_value_tick
part_value_tick_told M r b = either _ _ _ (on refl) (either _ _ _ (on refl) (either _ _ _ (on refl) (stops Misplaced refl)))

quoted_in_told : (r : Reader) (b quote row : ℕ) → Told (quoted_in r b quote row)
unfolding quoted_in
quoted_in_told r b quote row =
    either _ _ _ (either _ _ _ (on refl) (stops (value_refusal row) refl)) (either _ _ _ (on refl) (stops (value_refusal row) refl))

part_quoted_told : (r : Reader) (b quote : ℕ) → Told (part_quoted_tick r b quote)
unfolding part_quoted_tick
part_quoted_told r b quote = either _ _ _ (stops Misplaced refl) (quoted_in_told r b quote (value_row r.row r.n b))

-- in character data, comments and entities

pub wide_tick_told : (r : Reader) (b : ℕ) (back : Mode) → Told (wide_tick r b back)
unfolding wide_tick
wide_tick_told r b back = either _ _ _ (stops NotChar refl) (on refl)

pub char_tick_told : (r : Reader) (b : ℕ) → Told (char_tick r b)
unfolding char_tick
char_tick_told r b = either _ _ _ (stops NotChar refl) (either _ _ _ (on refl) (on refl))

pub data_tick_told : (M : List ℕ) (r : Reader) (b : ℕ) (next : Mode) (shut : Bool) → Told (data_tick M r b next shut)
unfolding data_tick
data_tick_told M r b next shut =
    either _ _ _ (on refl) (either _ _ _ (on refl) (either _ _ _ (on refl) (either _ _ _ (on refl) (either _ _ _
    (either _ _ _ (stops Misplaced refl) (on refl)) (wide_tick_told r b mode.Data)))))

pub bang_tick_told : (r : Reader) (b : ℕ) → Told (bang_tick r b)
unfolding bang_tick
bang_tick_told r b =
    either _ _ _ (stops Misplaced refl) (either _ _ _ (either _ _ _ (on refl) (on refl)) (either _ _ _ (either _ _ _ (stops Cdata refl)
    (either _ _ _ (stops Doctype refl) (stops Misplaced refl))) (stops Misplaced refl)))

pub note_tick_told : (M : List ℕ) (r : Reader) (b : ℕ) (next : Mode) → Told (note_tick M r b next)
unfolding note_tick
note_tick_told M r b next = either _ _ _ (on refl) (either _ _ _ (on refl) (wide_tick_told r b mode.Note))

pub remarked_tick_told : (r : Reader) (b : ℕ) → Told (remarked_tick r b)
unfolding remarked_tick
remarked_tick_told r b = either _ _ _ (either _ _ _ (on refl) (either _ _ _ (on refl) (on refl))) (stops Misplaced refl)

entity_tick_told : (r : Reader) (b : ℕ) → Told (entity_tick r b)
unfolding entity_tick
entity_tick_told r b = either _ _ _ (stops OtherEntity refl) (either _ _ _ (on refl) (either _ _ _ (stops OtherEntity refl) (on refl)))

pub amper_tick_told : (r : Reader) (b : ℕ) → Told (amper_tick r b)
unfolding amper_tick
amper_tick_told r b = either _ _ _ (either _ _ _ (stops CharReference refl) (entity_tick_told r b)) (entity_tick_told r b)

-- in tags

begun_told : (r : Reader) (b : ℕ) (R : List ℕ) → Told (begun r b R).reader
unfolding begun
begun_told r b R = either_kept _ _ _ (stops Misplaced refl) (either_kept _ _ _ (stops Nested refl) (on refl))

slashed_tick_told : (r : Reader) → Told (slashed_tick r)
unfolding slashed_tick
slashed_tick_told r = either _ _ _ (stops Misplaced refl) (either _ _ _ (stops Misplaced refl) (on refl))

pub markup_tick_told : (M : List ℕ) (r : Reader) (b : ℕ) (R : List ℕ) → Told (markup_tick M r b R).reader
unfolding markup_tick
markup_tick_told M r b R =
    either_kept _ _ _ (begun_told r b R) (either_kept _ _ _ (on refl) (either_kept _ _ _ (slashed_tick_told r)
    (either_kept _ _ _ (stops Instruction refl) (either_kept _ _ _ (stops Misplaced refl)
    (either_kept _ _ _ (stops Misplaced refl) (stops ForeignName refl))))))

pub first_tick_told : (M : List ℕ) (r : Reader) (b : ℕ) (R : List ℕ) → Told (first_tick M r b R).reader
unfolding first_tick
first_tick_told M r b R = either_kept _ _ _ (on refl) (markup_tick_told M r b R)

name_byte_told : (r : Reader) (b : ℕ) (R : List ℕ) (slot : ℕ) (m : Mode) → Told (name_byte r b R slot m).reader
unfolding name_byte
name_byte_told r b R slot m = either_kept _ _ _ (stops LongName refl) (on refl)

tag_end_told : (r : Reader) (b : ℕ) → Told (tag_end r b)
unfolding tag_end
tag_end_told r b = either _ _ _ (on refl) (either _ _ _ (either _ _ _ (stops Misplaced refl) (on refl)) (stops Misplaced refl))

pub tag_tick_told : (M : List ℕ) (r : Reader) (b : ℕ) (R : List ℕ) → Told (tag_tick M r b R).reader
unfolding tag_tick
tag_tick_told M r b R =
    either_kept _ _ _ (name_byte_told r b R r.place mode.Tag) (either_kept _ _ _ (on refl) (either_kept _ _ _ (stops ForeignName refl)
    (either_kept _ _ _ (tag_end_told r b) (either_kept _ _ _ (tag_end_told r b) (stops Misplaced refl)))))

pub tagged_tick_told : (M : List ℕ) (r : Reader) (b : ℕ) → Told (tagged_tick M r b)
unfolding tagged_tick
tagged_tick_told M r b = either _ _ _ (on refl) (tag_end_told r b)

att_begun_told : (r : Reader) (b : ℕ) (R : List ℕ) → Told (att_begun r b R).reader
unfolding att_begun
att_begun_told r b R = either_kept _ _ _ (stops ManyAttributes refl) (on refl)

pub gap_tick_told : (M : List ℕ) (r : Reader) (b : ℕ) (R : List ℕ) → Told (gap_tick M r b R).reader
unfolding gap_tick
gap_tick_told M r b R =
    either_kept _ _ _ (att_begun_told r b R) (either_kept _ _ _ (on refl) (either_kept _ _ _ (stops ForeignName refl) (tag_end_told r b)))

named_tick_told : (r : Reader) (R : List ℕ) (m : Mode) → Told (named_tick r R m).reader
unfolding named_tick
named_tick_told r R m = either_kept _ _ _ (stops Misplaced refl) (either_kept _ _ _ (stops Twice refl) (on refl))

pub att_tick_told : (M : List ℕ) (r : Reader) (b : ℕ) (R : List ℕ) → Told (att_tick M r b R).reader
unfolding att_tick
att_tick_told M r b R =
    either_kept _ _ _ (name_byte_told r b R (attribute_slot + r.count) mode.Att) (either_kept _ _ _ (named_tick_told r R mode.Equals)
    (either_kept _ _ _ (named_tick_told r R mode.Value) (either_kept _ _ _ (stops ForeignName refl) (stops Misplaced refl))))

pub equals_tick_told : (M : List ℕ) (r : Reader) (b : ℕ) → Told (equals_tick M r b)
unfolding equals_tick
equals_tick_told M r b = either _ _ _ (on refl) (either _ _ _ (on refl) (stops Misplaced refl))

pub value_tick_told : (M : List ℕ) (r : Reader) (b : ℕ) → Told (value_tick M r b)
unfolding value_tick
value_tick_told M r b = either _ _ _ (on refl) (either _ _ _ (on refl) (either _ _ _ (on refl) (stops Misplaced refl)))

att_ended_told : (r : Reader) → Told (att_ended r)
unfolding att_ended
att_ended_told r = either _ _ _ (stops Misplaced refl) (on refl)

pub quoted_tick_told : (M : List ℕ) (r : Reader) (b mark q : ℕ) → Told (quoted_tick M r b mark q)
unfolding quoted_tick
quoted_tick_told M r b mark q =
    either _ _ _ (on refl) (either _ _ _ (att_ended_told r) (either _ _ _ (on refl)
    (either _ _ _ (stops Misplaced refl) (wide_tick_told r b r.mode))))

-- in end tags

pub emptied_tick_told : (r : Reader) (b : ℕ) → Told (emptied_tick r b)
unfolding emptied_tick
emptied_tick_told r b = either _ _ _ (either _ _ _ (on refl) (on refl)) (stops Misplaced refl)

closed_told : (r : Reader) → Told (closed r)
unfolding closed
closed_told r = either _ _ _ (on refl) (on refl)

pub ended_tick_told : (M : List ℕ) (r : Reader) (b : ℕ) → Told (ended_tick M r b)
unfolding ended_tick
ended_tick_told M r b = either _ _ _ (on refl) (either _ _ _ (closed_told r) (stops Misplaced refl))

whole_tick_told : (M : List ℕ) (r : Reader) (b : ℕ) → Told (whole_tick M r b)
unfolding whole_tick
whole_tick_told M r b = either _ _ _ (stops OtherEnd refl) (either _ _ _ (stops OtherEnd refl) (ended_tick_told M r b))

pub end_tick_told : (M : List ℕ) (r : Reader) (b : ℕ) (R : List ℕ) → Told (end_tick M r b R)
unfolding end_tick
end_tick_told M r b R = either _ _ _ (stops Misplaced refl) (either _ _ _ (whole_tick_told M r b) (either _ _ _ (on refl) (stops OtherEnd refl)))

-- in each mode

pub prolog_told : (p : Prolog) (M : List ℕ) (r : Reader) (b : ℕ) → Told (prolog_tick p M r b)
unfolding prolog_tick
prolog_told prolog.Start M r b = start_tick_told M r b
prolog_told prolog.Mark M r b = mark_tick_told r b
prolog_told prolog.Fresh M r b = around_told M r b mode.First
prolog_told prolog.Xml M r b = xml_tick_told r b
prolog_told prolog.Declared M r b = declared_tick_told M r b
prolog_told prolog.Piece M r b = piece_tick_told M r b
prolog_told prolog.Part M r b = part_tick_told r b
prolog_told prolog.PartEquals M r b = part_equals_tick_told M r b
prolog_told prolog.PartValue M r b = part_value_tick_told M r b
prolog_told prolog.PartDouble M r b = part_quoted_told r b 34
prolog_told prolog.PartSingle M r b = part_quoted_told r b 39
prolog_told prolog.Told M r b = told_tick_told M r b
prolog_told prolog.Query M r b = query_tick_told r b

tick_in_told : (m : Mode) (M : List ℕ) (r : Reader) (b : ℕ) (R : List ℕ) → Told (tick_in m M r b R).reader
unfolding tick_in
tick_in_told (mode.Prolog p) M r b R = prolog_told p M r b
tick_in_told mode.First M r b R = first_tick_told M r b R
tick_in_told mode.Around M r b R = around_told M r b mode.Markup
tick_in_told mode.Data M r b R = data_tick_told M r b mode.Bracket false
tick_in_told mode.Bracket M r b R = data_tick_told M r b mode.Brackets false
tick_in_told mode.Brackets M r b R = data_tick_told M r b mode.Brackets true
tick_in_told mode.Markup M r b R = markup_tick_told M r b R
tick_in_told mode.Bang M r b R = bang_tick_told r b
tick_in_told mode.Note M r b R = note_tick_told M r b mode.Dash
tick_in_told mode.Dash M r b R = note_tick_told M r b mode.Dashes
tick_in_told mode.Dashes M r b R = remarked_tick_told r b
tick_in_told mode.Amper M r b R = amper_tick_told r b
tick_in_told mode.Char M r b R = char_tick_told r b
tick_in_told mode.Tag M r b R = tag_tick_told M r b R
tick_in_told mode.Tagged M r b R = tagged_tick_told M r b
tick_in_told mode.Gap M r b R = gap_tick_told M r b R
tick_in_told mode.Att M r b R = att_tick_told M r b R
tick_in_told mode.Equals M r b R = equals_tick_told M r b
tick_in_told mode.Value M r b R = value_tick_told M r b
tick_in_told mode.Double M r b R = quoted_tick_told M r b 2 34
tick_in_told mode.Single M r b R = quoted_tick_told M r b 4 39
tick_in_told mode.Slash M r b R = emptied_tick_told r b
tick_in_told mode.End M r b R = end_tick_told M r b R
tick_in_told mode.Ended M r b R = ended_tick_told M r b

pub tick_told : (M : List ℕ) (r : Reader) (b : ℕ) (R : List ℕ) → Told (tick M r b R).reader
unfolding tick
tick_told M r b R = tick_in_told r.mode M r b R
