-- The open elements as they stand in lent bytes: a record of 16 numbers for each.
--
--   shape               an element's record: its frame (crate engine, Quick) is its first numbers, one for each field
--   place g             where a field stands in a record
--   Elements            all records: their frames, used or not, and their spare numbers;  elements_in bs: those in bytes
--   frame_at E i         the frame of record i
--   raised_in, refreshed_in, opened_in      what `raise`, `refresh` and `open` do, to record i alone
--
-- There are as many records as elements may be open (crate meaning, Limits).
-- Assumes nothing. NOT here: how many of the records are in use (crate step).
pub mod Laws
use Rattle.std.specs.Prelude.{ℕ, List, [], ◌∷◌, get_or}
use Rattle.meaning.specs.Limits.{depth_limit}
use Rattle.engine.specs.Quick.{Frame}
use Rattle.element.specs.declared.Field.{Field}
use Rattle.element.specs.declared.Field.TheVariants.{Name, Pass, Below, Met, Sure, Possible}
use Rattle.words.specs.Records.{Shape, Records, set_at, blank, records_in, at}

abbrev pub frame_of : (ℕ → ℕ) → Frame
frame_of r = record { name = r 0; pass = r 1; below = r 2; met = r 3; sure = r 4; possible = r 5 }

abbrev pub field_of : ℕ → Frame → ℕ
field_of g f = get_or (f.name ∷ f.pass ∷ f.below ∷ f.met ∷ f.sure ∷ f.possible ∷ []) g 0

abbrev pub place : Field → ℕ
place Name = 0
place Pass = 1
place Below = 2
place Met = 3
place Sure = 4
place Possible = 5

abbrev pub shape : Shape Frame
shape = record { count = depth_limit; wide = 16; fields = 6; make = frame_of; field = field_of }

abbrev pub Elements : Type 0
Elements = Records Frame

unfoldable pub elements_in : List ℕ → Elements
elements_in bs = records_in shape bs

abbrev pub no_frame : Frame
no_frame = blank shape

abbrev pub frame_at : Elements → ℕ → Frame
frame_at E i = at shape E i

unfoldable pub raised_in : ℕ → ℕ → ℕ → Elements → Elements
raised_in i below met E =
    set_at i
    (record {
      name = (frame_at E i).name;
      pass = (frame_at E i).pass;
      below = below;
      met = met;
      sure = (frame_at E i).sure;
      possible = (frame_at E i).possible;
    })
    E

unfoldable pub refreshed_in : ℕ → ℕ → Elements → Elements
refreshed_in i sure E =
    set_at i
    (record {
      name = (frame_at E i).name;
      pass = (frame_at E i).pass;
      below = (frame_at E i).below;
      met = (frame_at E i).met;
      sure = sure;
      possible = (frame_at E i).possible;
    })
    E

unfoldable pub opened_in : ℕ → ℕ → ℕ → ℕ → ℕ → Elements → Elements
opened_in i name pass met possible E = set_at i (record { name = name; pass = pass; below = 0; met = met; sure = 0; possible = possible }) E
