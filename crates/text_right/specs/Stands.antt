-- What state of the machine a reader and its room stand for, and what events it gives.
--
--   names R d, atts_of R k        the names in the slots below d, the last first; of the first k attributes
--   place_of R p                  the place that the number p stands for
--   begun_in R s n                the first n bytes of slot s
--   part_no k, said_no k           the part k of the XML declaration; where 0 is none
--   value_left row n q            what is left of the value `row` in the quotes q after n bytes, as rows
--   form_rows f                   what is left of a character by its form
--   entity_left row n             what is left of the entities after the first n bytes of the entity at `row`
--   derives w rs                 what is left of some rows after the bytes w
--   prolog_state, end_state, amper_state, bang_state       the states in some modes
--   back_state, state_in           the state in a mode to which the reader comes back, and in any;  state_of r R: in the reader's own
--   evs_in, evs_of r R             the events that the reader gives
--
-- Assumes nothing. NOT here: that each byte leads from state to state (Right).
use Rattle.std.specs.Prelude.{ℕ, zero, suc, ◌+◌, ◌*◌, ◌-◌, true, false, List, [], ◌∷◌, eqb, ltb, take, drop}
use Rattle.std.proofs.Math.Option.{Option, none, some}
use Rattle.choice.specs.When.{when}
use Rattle.xml.specs.Class.{Rows, to, only, derive, word}
use Rattle.xml.specs.Refused.{misplaced, not_char, instruction, other_entity, other_end}
use Rattle.xml.specs.Grammar.{Ev, opens, closes, remark, entities, b0, b1, b2, Part, version, encoding, standalone, exactly, letter, part_name, part_values}
use Rattle.xml.specs.Machine.{Place, State, emptied, remarks, then_byte, part_refusal}
use Rattle.chars.specs.Entities.{entity_table}
use Rattle.slots.specs.Slots.{attribute_slot, base_of, length_in, name_in}
use Rattle.modes.specs.declared.Mode.{Mode}
use Rattle.modes.specs.declared.Mode.TheVariants as mode
use Rattle.modes.specs.declared.Prolog.{Prolog}
use Rattle.modes.specs.declared.Prolog.TheVariants as prolog
use Rattle.modes.specs.declared.Gives.{Gives}
use Rattle.modes.specs.declared.Gives.TheVariants as gives
use Rattle.modes.specs.declared.Reader.{Reader}
use Rattle.modes.specs.Moves.{after_place, open_at}

unfoldable pub names : List ℕ → ℕ → List (List ℕ)
names R zero = []
names R (suc d) = name_in R d ∷ names R d

unfoldable pub atts_of : List ℕ → ℕ → List (List ℕ)
atts_of R zero = []
atts_of R (suc k) = name_in R (attribute_slot + k) ∷ atts_of R k

unfoldable pub place_of : List ℕ → ℕ → Place
place_of R p = when (eqb p 0) Place.before (when (eqb p after_place) Place.after (Place.inside (name_in R (p - 1)) (names R (p - 1))))

unfoldable pub begun_in : List ℕ → ℕ → ℕ → List ℕ
begun_in R s n = take n (drop (base_of s) R)

unfoldable pub part_no : ℕ → Part
part_no k = when (eqb k 1) version (when (eqb k 2) encoding standalone)

unfoldable pub said_no : ℕ → Option Part
said_no k = when (eqb k 0) none (some (part_no k))

unfoldable pub value_left : ℕ → ℕ → ℕ → Rows
value_left row n q =
    when (eqb row 1) (word (drop n (49 ∷ 46 ∷ 48 ∷ q ∷ [])) ∷ [])
    (when (eqb row 2) (drop n (letter 117 ∷ letter 116 ∷ letter 102 ∷ exactly 45 ∷ exactly 56 ∷ exactly q ∷ []) ∷ [])
    (when (eqb n 0) (part_values standalone q)
    (when (eqb row 3) (word (drop n (121 ∷ 101 ∷ 115 ∷ q ∷ [])) ∷ []) (word (drop n (110 ∷ 111 ∷ q ∷ [])) ∷ []))))

unfoldable pub form_rows : ℕ → Rows
form_rows f =
    when (eqb f 1) (((to 128 191 ∷ []) ∷ []) ∷ [])
    (when (eqb f 2) (((to 128 191 ∷ []) ∷ (to 128 191 ∷ []) ∷ []) ∷ [])
    (when (eqb f 3) (((to 128 191 ∷ []) ∷ (to 128 191 ∷ []) ∷ (to 128 191 ∷ []) ∷ []) ∷ [])
    (when (eqb f 4) (((to 160 191 ∷ []) ∷ (to 128 191 ∷ []) ∷ []) ∷ [])
    (when (eqb f 5) (((to 128 159 ∷ []) ∷ (to 128 191 ∷ []) ∷ []) ∷ [])
    (when (eqb f 6) (((to 128 190 ∷ []) ∷ (to 128 191 ∷ []) ∷ []) ∷ ((only 191 ∷ []) ∷ (to 128 189 ∷ []) ∷ []) ∷ [])
    (when (eqb f 7) (((to 128 189 ∷ []) ∷ []) ∷ [])
    (when (eqb f 8) (((to 144 191 ∷ []) ∷ (to 128 191 ∷ []) ∷ (to 128 191 ∷ []) ∷ []) ∷ [])
    (((to 128 143 ∷ []) ∷ (to 128 191 ∷ []) ∷ (to 128 191 ∷ []) ∷ []) ∷ []))))))))

unfoldable pub derives : List ℕ → Rows → Rows
derives [] rs = rs
derives (b ∷ w) rs = derives w (derive b rs)

unfoldable pub entity_left : ℕ → ℕ → Rows
entity_left row n = derives (take n (drop (6 * row) entity_table)) entities

module _ (R : List ℕ) (place count : ℕ) where
  unfoldable pub back_state : Mode → State
  back_state mode.Data = State.at (place_of R place) b0
  back_state mode.Note = State.note (place_of R place)
  back_state mode.Double = State.value (place_of R place) (name_in R place) (atts_of R count) (name_in R (attribute_slot + count)) true
  back_state mode.Single = State.value (place_of R place) (name_in R place) (atts_of R count) (name_in R (attribute_slot + count)) false
  back_state (mode.Prolog p) = State.start
  back_state mode.First = State.start
  back_state mode.Around = State.start
  back_state mode.Bracket = State.start
  back_state mode.Brackets = State.start
  back_state mode.Markup = State.start
  back_state mode.Bang = State.start
  back_state mode.Dash = State.start
  back_state mode.Dashes = State.start
  back_state mode.Amper = State.start
  back_state mode.Char = State.start
  back_state mode.Tag = State.start
  back_state mode.Tagged = State.start
  back_state mode.Gap = State.start
  back_state mode.Att = State.start
  back_state mode.Equals = State.start
  back_state mode.Value = State.start
  back_state mode.Slash = State.start
  back_state mode.End = State.start
  back_state mode.Ended = State.start

-- the states of a reader at a place, with a count, a row and a number of bytes
module _ (R : List ℕ) (back : Mode) (place count row n : ℕ) where
  unfoldable pub prolog_state : Prolog → State
  prolog_state prolog.Start = State.start
  prolog_state prolog.Mark = State.rows (word (drop (n - 1) (187 ∷ 191 ∷ [])) ∷ []) misplaced [] State.fresh
  prolog_state prolog.Fresh = State.fresh
  prolog_state prolog.Xml = State.rows (word (drop (n - 2) (120 ∷ 109 ∷ 108 ∷ [])) ∷ []) instruction [] State.declared
  prolog_state prolog.Declared = State.declared
  prolog_state prolog.Piece = State.apiece (said_no count)
  prolog_state prolog.Part = State.rows (word (drop n (part_name (part_no row))) ∷ []) misplaced [] (State.part_eq (said_no count) (part_no row))
  prolog_state prolog.PartEquals = State.part_eq (said_no count) (part_no row)
  prolog_state prolog.PartValue = State.part_val (said_no count) (part_no row)
  prolog_state prolog.PartDouble = State.rows (value_left row n 34) (part_refusal (part_no row)) [] (State.told (part_no row))
  prolog_state prolog.PartSingle = State.rows (value_left row n 39) (part_refusal (part_no row)) [] (State.told (part_no row))
  prolog_state prolog.Told = State.told (part_no count)
  prolog_state prolog.Query = then_byte 62 [] (State.at Place.before b0)

  unfoldable pub end_state : State
  end_state =
      when (ltb n (length_in R (place - 1)))
      (State.rows (word (drop n (name_in R (place - 1))) ∷ []) other_end [] (State.ending (name_in R (place - 1)) (names R (place - 1))))
      (State.ending (name_in R (place - 1)) (names R (place - 1)))

  unfoldable pub amper_state : State
  amper_state =
      when (eqb n 0) (State.amper (back_state R place count back)) (State.rows (entity_left row n) other_entity [] (back_state R place count back))

  unfoldable pub bang_state : State
  bang_state = when (eqb n 2) (State.bang (place_of R place)) (State.rows (word (45 ∷ []) ∷ []) misplaced [] (State.note (place_of R place)))

  unfoldable pub state_in : Mode → State
  state_in (mode.Prolog p) = prolog_state p
  state_in mode.First = State.opening
  state_in mode.Around = State.at (place_of R place) b0
  state_in mode.Data = State.at (place_of R place) b0
  state_in mode.Bracket = State.at (place_of R place) b1
  state_in mode.Brackets = State.at (place_of R place) b2
  state_in mode.Markup = State.markup (place_of R place)
  state_in mode.Bang = bang_state
  state_in mode.Note = State.note (place_of R place)
  state_in mode.Dash = State.dash (place_of R place)
  state_in mode.Dashes = then_byte 62 (remarks (place_of R place)) (State.at (place_of R place) b0)
  state_in mode.Amper = amper_state
  state_in mode.Char = State.rows (form_rows n) not_char [] (back_state R place count back)
  state_in mode.Tag = State.tag (place_of R place) (begun_in R place n)
  state_in mode.Tagged = State.tagged (place_of R place) (name_in R place) (atts_of R count)
  state_in mode.Gap = State.gap (place_of R place) (name_in R place) (atts_of R count)
  state_in mode.Att = State.att (place_of R place) (name_in R place) (atts_of R count) (begun_in R (attribute_slot + count) n)
  state_in mode.Equals = State.eqs (place_of R place) (name_in R place) (atts_of R count) (name_in R (attribute_slot + count))
  state_in mode.Value = State.val (place_of R place) (name_in R place) (atts_of R count) (name_in R (attribute_slot + count))
  state_in mode.Double = State.value (place_of R place) (name_in R place) (atts_of R count) (name_in R (attribute_slot + count)) true
  state_in mode.Single = State.value (place_of R place) (name_in R place) (atts_of R count) (name_in R (attribute_slot + count)) false
  state_in mode.Slash =
      then_byte 62 (opens (name_in R place) ∷ closes (name_in R place) ∷ []) (State.at (emptied (place_of R place)) b0)
  state_in mode.End = end_state
  state_in mode.Ended = State.ended (name_in R (place - 1)) (names R (place - 1))

abbrev pub state_of : Reader → List ℕ → State
state_of r R = state_in R r.back r.place r.count r.row r.n r.mode

unfoldable pub evs_in : List ℕ → ℕ → Gives → List Ev
evs_in R p gives.Nothing = []
evs_in R p gives.Open = opens (name_in R (p - 1)) ∷ []
evs_in R p gives.Close = closes (name_in R (open_at p)) ∷ []
evs_in R p gives.Both = opens (name_in R (open_at p)) ∷ closes (name_in R (open_at p)) ∷ []
evs_in R p gives.Remark = remark ∷ []

abbrev pub evs_of : Reader → List ℕ → List Ev
evs_of r R = evs_in R r.place r.gives
