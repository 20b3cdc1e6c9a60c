-- What holds of a reader and its room that calls lead to.
--
--   Inner p, Outer p, Spot p      the place p is inside the document element, is not, or is any
--   Kept R p                      the room is long enough, and the slots below the place p hold names
--   InTag R p k, InAtt R p k      a tag's name is whole, and k attributes; and the name of one more
--   Back R p k m                  the mode m is one to which the reader comes back
--   EntityAt row n                n bytes of the entity at `row` can have been read, and it is the first row that begins so
--   ValueAt row n                 n bytes of the value `row` of the XML declaration can have been read
--   entity_ok, value_ok, name_ok     these as tests;  entity_none: nothing was read
--   PartAt k, SaidAt k            k is one of its parts; or none
--   NameAt row n                  n bytes of the name of the part `row` can have been read, and some are left
--   FitsIn p r                    the reader fits the mode p of the prolog;  Fits R r m: the mode m
--   Sound r R                     all of it
--
-- Assumes nothing.
use Rattle.std.specs.Prelude.{ℕ, ◌+◌, ◌≤◌, ◌<◌, ◌≡◌, ◌⊎◌, Bool, true, false, not, ◌&&◌, List, T, eqb, leb, ltb, length, get_or}
use Rattle.choice.specs.When.{when}
use Rattle.slots.specs.Slots.{attribute_slot, base_of, length_in}
use Rattle.modes.specs.declared.Mode.{Mode}
use Rattle.modes.specs.declared.Mode.TheVariants as mode
use Rattle.modes.specs.declared.Prolog.{Prolog}
use Rattle.modes.specs.declared.Prolog.TheVariants as prolog
use Rattle.modes.specs.declared.Reader.{Reader}
use Rattle.modes.specs.Moves.{after_place, open_at}

pub record Inner (p : ℕ) : Type 0 where
  pub low : 1 ≤ p
  pub high : p ≤ 256

pub data Outer (p : ℕ) : Type 0 where
  before : p ≡ 0 → Outer p
  after : p ≡ after_place → Outer p

pub data Spot (p : ℕ) : Type 0 where
  outer : Outer p → Spot p
  inner : Inner p → Spot p

pub record Kept (R : List ℕ) (p : ℕ) : Type 0 where
  pub long : length R ≡ 18_496
  pub filled : (s : ℕ) → s < open_at p → 1 ≤ length_in R s

pub record InTag (R : List ℕ) (p k : ℕ) : Type 0 where
  pub deep : p < 256
  pub named : 1 ≤ length_in R p
  pub few : k ≤ 16
  pub short : (j : ℕ) → j < k → get_or R (base_of (attribute_slot + j) + 64) 0 ≤ 64

pub record InAtt (R : List ℕ) (p k : ℕ) : Type 0 where
  pub tag : InTag R p k
  pub fewer : k < 16
  pub shorter : get_or R (base_of (attribute_slot + k) + 64) 0 ≤ 64

pub data Back (R : List ℕ) (p k : ℕ) : Mode → Type 0 where
  data' : Inner p → Back R p k mode.Data
  note : Spot p → Back R p k mode.Note
  double : InAtt R p k → Back R p k mode.Double
  single : InAtt R p k → Back R p k mode.Single

unfoldable pub entity_ok : ℕ → ℕ → Bool
entity_ok row n =
    ltb row 5
    && (ltb n 5
    && when (eqb n 0) (eqb row 0) (when (eqb n 1) (not (eqb row 3)) (when (eqb n 2) true (when (eqb n 3) (leb 2 row) (leb 3 row)))))

pub record EntityAt (row n : ℕ) : Type 0 where
  pub holds : T (entity_ok row n)

pub entity_none : EntityAt 0 0
unfolding entity_ok when
entity_none = record { holds = tt }

unfoldable pub value_ok : ℕ → ℕ → Bool
value_ok row n =
    ltb row 5
    && (ltb n 6
    && when (eqb row 1) (ltb n 4) (when (eqb row 2) (ltb n 6) (when (eqb row 3) (ltb n 4) (when (eqb row 4) (leb 1 n && ltb n 3) false))))

pub record ValueAt (row n : ℕ) : Type 0 where
  pub holds : T (value_ok row n)

-- the number of a part, and of one or none
pub record PartAt (k : ℕ) : Type 0 where
  pub low : 1 ≤ k
  pub high : k ≤ 3

pub record SaidAt (k : ℕ) : Type 0 where
  pub most : k ≤ 3

-- some bytes of a part's name, and not all
unfoldable pub name_ok : ℕ → ℕ → Bool
name_ok row n =
    ltb row 4 && (ltb n 10 && (leb 1 n && when (eqb row 1) (ltb n 7) (when (eqb row 2) (ltb n 8) (when (eqb row 3) (ltb n 10) false))))

pub record NameAt (row n : ℕ) : Type 0 where
  pub holds : T (name_ok row n)

pub data FitsIn (r : Reader) : Prolog → Type 0 where
  start : FitsIn r prolog.Start
  mark : (r.n ≡ 1) ⊎ (r.n ≡ 2) → FitsIn r prolog.Mark
  fresh : FitsIn r prolog.Fresh
  xml : (r.n ≡ 2) ⊎ ((r.n ≡ 3) ⊎ (r.n ≡ 4)) → FitsIn r prolog.Xml
  declared : FitsIn r prolog.Declared
  piece : SaidAt r.count → FitsIn r prolog.Piece
  part : SaidAt r.count → NameAt r.row r.n → FitsIn r prolog.Part
  part_equals : SaidAt r.count → PartAt r.row → FitsIn r prolog.PartEquals
  part_value : SaidAt r.count → PartAt r.row → FitsIn r prolog.PartValue
  part_double : ValueAt r.row r.n → FitsIn r prolog.PartDouble
  part_single : ValueAt r.row r.n → FitsIn r prolog.PartSingle
  told : PartAt r.count → FitsIn r prolog.Told
  query : FitsIn r prolog.Query

pub data Fits (R : List ℕ) (r : Reader) : Mode → Type 0 where
  prolog' : {p : Prolog} → r.place ≡ 0 → FitsIn r p → Fits R r (mode.Prolog p)
  first : r.place ≡ 0 → Fits R r mode.First
  around : Outer r.place → Fits R r mode.Around
  back : {m : Mode} → Back R r.place r.count m → Fits R r m
  bracket : Inner r.place → Fits R r mode.Bracket
  brackets : Inner r.place → Fits R r mode.Brackets
  markup : Spot r.place → Fits R r mode.Markup
  bang : Spot r.place → (r.n ≡ 2) ⊎ (r.n ≡ 3) → Fits R r mode.Bang
  dash : Spot r.place → Fits R r mode.Dash
  dashes : Spot r.place → Fits R r mode.Dashes
  amper : Back R r.place r.count r.back → EntityAt r.row r.n → Fits R r mode.Amper
  char : Back R r.place r.count r.back → 1 ≤ r.n → r.n ≤ 9 → Fits R r mode.Char
  tag : r.place < 256 → 1 ≤ r.n → r.n ≤ 64 → Fits R r mode.Tag
  tagged : InTag R r.place r.count → Fits R r mode.Tagged
  gap : InTag R r.place r.count → Fits R r mode.Gap
  att : InTag R r.place r.count → r.count < 16 → 1 ≤ r.n → r.n ≤ 64 → Fits R r mode.Att
  equals : InAtt R r.place r.count → Fits R r mode.Equals
  value : InAtt R r.place r.count → Fits R r mode.Value
  slash : r.place < 256 → 1 ≤ length_in R r.place → Fits R r mode.Slash
  end : Inner r.place → Fits R r mode.End
  ended : Inner r.place → Fits R r mode.Ended

pub record Sound (r : Reader) (R : List ℕ) : Type 0 where
  pub kept : Kept R r.place
  pub fits : Fits R r r.mode
