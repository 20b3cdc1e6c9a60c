-- One byte of character data, of a comment, of an entity or of a character of several bytes.
--
--   wide_tick r b back, char_tick r b      the first byte of a character of several bytes, after which the reader comes back; another of its bytes
--   data_tick M r b bracket shut          character data, in which ']' leads to the mode `bracket`; where it is shut '>' is refused
--   bang_tick, note_tick M r b dash, remarked_tick      "<!--"; a comment, in which '-' leads to the mode `dash`; its '>'
--   entity_tick r b, amper_tick r b        a byte of an entity; after '&'
--
-- M are the marks of the bytes. Assumes nothing. NOT here: that these are the machine's steps (crate text_right).
use Rattle.std.specs.Prelude.{ℕ, ◌+◌, Bool, List, [], ◌∷◌, eqb, leb, get_or}
use Rattle.choice.specs.When.{when}
use Rattle.limits.specs.declared.TextRefusal.TheVariants.{Misplaced, NotChar, Cdata, Doctype, CharReference, OtherEntity}
use Rattle.chars.specs.Marks.{marked}
use Rattle.chars.specs.Forms.{lead_form, follows, whole}
use Rattle.chars.specs.Entities.{entity_row, no_entity}
use Rattle.modes.specs.declared.Mode.{Mode}
use Rattle.modes.specs.declared.Mode.TheVariants as mode
use Rattle.modes.specs.declared.Gives.TheVariants as gives
use Rattle.modes.specs.declared.Reader.{Reader}
use Rattle.modes.specs.Moves.{after_place, go_to, stay_in, refuse_with, spell_on, go_aside, give_out}

unfoldable pub wide_tick : Reader → ℕ → Mode → Reader
wide_tick r b back = when (eqb (lead_form b) 0) (refuse_with r NotChar) (go_aside r mode.Char (lead_form b) back)

unfoldable pub char_tick : Reader → ℕ → Reader
char_tick r b =
    when (eqb (follows r.n b) 0) (refuse_with r NotChar)
    (when (eqb (follows r.n b) whole) (go_to r r.back) (spell_on r mode.Char 0 (follows r.n b)))

unfoldable pub data_tick : List ℕ → Reader → ℕ → Mode → Bool → Reader
data_tick M r b bracket shut =
    when (marked M b 1) (stay_in r mode.Data)
    (when (eqb b 60) (go_to r mode.Markup)
    (when (eqb b 38) (go_aside r mode.Amper 0 mode.Data)
    (when (eqb b 93) (go_to r bracket) (when (eqb b 62) (when shut (refuse_with r Misplaced) (go_to r mode.Data)) (wide_tick r b mode.Data)))))

-- '<!--'
abbrev pub note_opening : List ℕ
note_opening = 60 ∷ 33 ∷ 45 ∷ 45 ∷ []

unfoldable pub bang_tick : Reader → ℕ → Reader
bang_tick r b =
    when (leb 4 r.n) (refuse_with r Misplaced)
    (when (eqb b (get_or note_opening r.n 0)) (when (eqb r.n 3) (go_to r mode.Note) (spell_on r mode.Bang 0 (r.n + 1)))
    (when (eqb r.n 2) (when (eqb b 91) (refuse_with r Cdata) (when (eqb b 68) (refuse_with r Doctype) (refuse_with r Misplaced))) (refuse_with r Misplaced)))

unfoldable pub note_tick : List ℕ → Reader → ℕ → Mode → Reader
note_tick M r b dash = when (marked M b 8) (stay_in r mode.Note) (when (eqb b 45) (go_to r dash) (wide_tick r b mode.Note))

unfoldable pub remarked_tick : Reader → ℕ → Reader
remarked_tick r b =
    when (eqb b 62)
    (when (eqb r.place 0) (go_to r mode.Around)
    (when (eqb r.place after_place) (go_to r mode.Around) (give_out r gives.Remark mode.Data r.place)))
    (refuse_with r Misplaced)

-- in the row of the entities that the byte leads to
unfoldable pub entity_tick : Reader → ℕ → Reader
entity_tick r b =
    when (eqb (entity_row r.row r.n b) no_entity) (refuse_with r OtherEntity)
    (when (eqb b 59) (go_to r r.back)
    (when (leb 5 r.n) (refuse_with r OtherEntity) (spell_on r mode.Amper (entity_row r.row r.n b) (r.n + 1))))

unfoldable pub amper_tick : Reader → ℕ → Reader
amper_tick r b = when (eqb r.n 0) (when (eqb b 35) (refuse_with r CharReference) (entity_tick r b)) (entity_tick r b)
