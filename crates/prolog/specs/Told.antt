-- One byte of a part of the XML declaration. The parts are 1 version, 2 encoding, 3 standalone; 0 for none.
--
--   part_byte p k, value_byte row k      byte k of a part's name; of a value: row 1 is 1.0, row 2 utf-8, row 3 yes, row 4 no; 0 past the end
--   value_row row k b                   the row after byte k, which is b;  part_of row: its part
--   small row b                        a capital of an encoding as its small letter
--   value_refusal row                   what another value is refused with
--   blank_or M r b x c y                after a blank the mode is x, after the byte c it is y, and any other is refused
--   piece_tick, told_tick                between two parts, after a blank and before one
--   part_tick, part_equals_tick, part_value_tick, quoted_tick      in a part's name, after it, after its '=', in its value
--
-- M are the marks of the bytes. Assumes nothing. NOT here: that these are the machine's steps (crate text_right).
pub mod Laws
use Rattle.std.specs.Prelude.{ℕ, ◌+◌, List, eqb, leb, ltb, get_or, codes}
use Rattle.choice.specs.When.{when}
use Rattle.limits.specs.declared.TextRefusal.{TextRefusal}
use Rattle.limits.specs.declared.TextRefusal.TheVariants.{Misplaced, OtherEncoding}
use Rattle.chars.specs.Marks.{marked}
use Rattle.modes.specs.declared.Mode.TheVariants as mode
use Rattle.modes.specs.declared.Prolog.{Prolog}
use Rattle.modes.specs.declared.Prolog.TheVariants as prolog
use Rattle.modes.specs.declared.Reader.{Reader}
use Rattle.modes.specs.Moves.{go_to, refuse_with, spell_on, count_to}

unfoldable pub part_byte : ℕ → ℕ → ℕ
part_byte p k =
    when (eqb p 1) (get_or (codes "version") k 0)
    (when (eqb p 2) (get_or (codes "encoding") k 0) (when (eqb p 3) (get_or (codes "standalone") k 0) 0))

unfoldable pub value_byte : ℕ → ℕ → ℕ
value_byte row k =
    when (eqb row 1) (get_or (codes "1.0") k 0)
    (when (eqb row 2) (get_or (codes "utf-8") k 0)
    (when (eqb row 3) (get_or (codes "yes") k 0) (when (eqb row 4) (get_or (codes "no") k 0) 0)))

unfoldable pub value_row : ℕ → ℕ → ℕ → ℕ
value_row row k b = when (eqb k 0) (when (eqb row 3) (when (eqb b 110) 4 row) row) row

unfoldable pub part_of : ℕ → ℕ
part_of row = when (eqb row 4) 3 row

unfoldable pub small : ℕ → ℕ → ℕ
small row b = when (eqb row 2) (when (leb 65 b) (when (leb b 90) (b + 32) b) b) b

unfoldable pub value_refusal : ℕ → TextRefusal
value_refusal row = when (eqb row 2) OtherEncoding Misplaced

unfoldable pub piece_tick : List ℕ → Reader → ℕ → Reader
piece_tick M r b =
    when (marked M b 64) (go_to r (mode.Prolog prolog.Piece))
    (when (eqb r.count 0) (when (eqb b 118) (spell_on r (mode.Prolog prolog.Part) 1 1) (refuse_with r Misplaced))
    (when (eqb b 63) (go_to r (mode.Prolog prolog.Query))
    (when (eqb b 101) (when (eqb r.count 1) (spell_on r (mode.Prolog prolog.Part) 2 1) (refuse_with r Misplaced))
    (when (eqb b 115) (when (leb r.count 2) (spell_on r (mode.Prolog prolog.Part) 3 1) (refuse_with r Misplaced)) (refuse_with r Misplaced)))))

abbrev pub blank_or : List ℕ → Reader → ℕ → Prolog → ℕ → Prolog → Reader
blank_or M r b blank mark next =
    when (marked M b 64) (go_to r (mode.Prolog blank)) (when (eqb b mark) (go_to r (mode.Prolog next)) (refuse_with r Misplaced))

unfoldable pub told_tick : List ℕ → Reader → ℕ → Reader
told_tick M r b = blank_or M r b prolog.Piece 63 prolog.Query

unfoldable pub part_tick : Reader → ℕ → Reader
part_tick r b =
    when (leb 10 r.n) (refuse_with r Misplaced)
    (when (eqb (part_byte r.row r.n) 0) (refuse_with r Misplaced)
    (when (eqb b (part_byte r.row r.n))
    (when (eqb (part_byte r.row (r.n + 1)) 0) (go_to r (mode.Prolog prolog.PartEquals)) (spell_on r (mode.Prolog prolog.Part) r.row (r.n + 1)))
    (refuse_with r Misplaced)))

unfoldable pub part_equals_tick : List ℕ → Reader → ℕ → Reader
part_equals_tick M r b = blank_or M r b prolog.PartEquals 61 prolog.PartValue

unfoldable pub part_value_tick : List ℕ → Reader → ℕ → Reader
part_value_tick M r b =
    when (marked M b 64) (go_to r (mode.Prolog prolog.PartValue))
    (when (eqb b 34) (go_to r (mode.Prolog prolog.PartDouble)) (when (eqb b 39) (go_to r (mode.Prolog prolog.PartSingle)) (refuse_with r Misplaced)))

-- in the row that the byte decides
unfoldable pub quoted_in : Reader → ℕ → ℕ → ℕ → Reader
quoted_in r b quote row =
    when (eqb (value_byte row r.n) 0) (when (eqb b quote) (count_to r (mode.Prolog prolog.Told) (part_of row)) (refuse_with r (value_refusal row)))
    (when (eqb (small row b) (value_byte row r.n)) (spell_on r r.mode row (r.n + 1)) (refuse_with r (value_refusal row)))

unfoldable pub quoted_tick : Reader → ℕ → ℕ → Reader
quoted_tick r b quote = when (ltb 5 r.n) (refuse_with r Misplaced) (quoted_in r b quote (value_row r.row r.n b))
