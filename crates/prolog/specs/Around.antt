-- One byte around the document element, but for markup and the parts of the XML declaration.
--
--   around M r b next        blanks, and '<', after which the mode is `next`
--   start_tick, mark_tick      at the start of the text; in the byte order mark
--   xml_tick, declared_tick    in "<?xml"; after it
--   query_tick                after the declaration's '?'
--
-- M are the marks of the bytes. Assumes nothing. NOT here: that these are the machine's steps (crate text_right).
use Rattle.std.specs.Prelude.{ℕ, ◌+◌, List, [], ◌∷◌, eqb, leb, get_or}
use Rattle.choice.specs.When.{when}
use Rattle.limits.specs.declared.TextRefusal.TheVariants.{Misplaced, Instruction}
use Rattle.chars.specs.Marks.{marked}
use Rattle.modes.specs.declared.Mode.{Mode}
use Rattle.modes.specs.declared.Mode.TheVariants as mode
use Rattle.modes.specs.declared.Prolog.TheVariants as prolog
use Rattle.modes.specs.declared.Reader.{Reader}
use Rattle.modes.specs.Moves.{go_to, stay_in, refuse_with, spell_on, count_to}

unfoldable pub around : List ℕ → Reader → ℕ → Mode → Reader
around M r b next = when (marked M b 64) (stay_in r mode.Around) (when (eqb b 60) (go_to r next) (refuse_with r Misplaced))

unfoldable pub start_tick : List ℕ → Reader → ℕ → Reader
start_tick M r b = when (eqb b 239) (spell_on r (mode.Prolog prolog.Mark) 0 1) (around M r b mode.First)

unfoldable pub mark_tick : Reader → ℕ → Reader
mark_tick r b =
    when (eqb r.n 1) (when (eqb b 187) (spell_on r (mode.Prolog prolog.Mark) 0 2) (refuse_with r Misplaced))
    (when (eqb b 191) (go_to r (mode.Prolog prolog.Fresh)) (refuse_with r Misplaced))

-- '<?xml'
abbrev pub xml_opening : List ℕ
xml_opening = 60 ∷ 63 ∷ 120 ∷ 109 ∷ 108 ∷ []

unfoldable pub xml_tick : Reader → ℕ → Reader
xml_tick r b =
    when (leb 5 r.n) (refuse_with r Instruction)
    (when (eqb b (get_or xml_opening r.n 0))
    (when (eqb r.n 4) (go_to r (mode.Prolog prolog.Declared)) (spell_on r (mode.Prolog prolog.Xml) 0 (r.n + 1)))
    (refuse_with r Instruction))

unfoldable pub declared_tick : List ℕ → Reader → ℕ → Reader
declared_tick M r b =
    when (marked M b 64) (count_to r (mode.Prolog prolog.Piece) 0)
    (when (marked M b 16) (refuse_with r Instruction) (when (leb 128 b) (refuse_with r Instruction) (refuse_with r Misplaced)))

unfoldable pub query_tick : Reader → ℕ → Reader
query_tick r b = when (eqb b 62) (go_to r mode.Around) (refuse_with r Misplaced)
