-- The number of each refusal and of each reason: the definition by which answers that are enums are told in document 01's numbers.
--
--   number r, reason_number r, text_number r      the number that the enum of the code stands for
--   fault_in r                 the number of the refusal that a result is, 0 where it is none
--   fault_of o                 the same of a refusal that may be none
--   reason_in, reason_of, text_in, text_of        the same for a reason, and for a refusal of text
--
-- Assumes nothing. NOT here: the numbers themselves (crate meaning, Refusals; crate xml, Refused).
pub mod Laws
use Rattle.std.specs.Prelude.{ℕ, Option, Some, None, Result, Ok, Err}
use Rattle.meaning.specs.Refusals.{short_output, bad_record, after_end, wrong_close, too_deep, too_many_nodes, too_many_held, unfinished, bad_length}
use Rattle.meaning.specs.Refusals.{bad_step, already_stopped, short_room, bad_axis, bad_role, bad_hang, bad_zero}
use Rattle.xml.specs.Refused.{misplaced, not_char, doctype, instruction, cdata, char_reference, other_entity, long_name, many_attributes, twice, other_end}
use Rattle.xml.specs.Refused.{nested, other_encoding, foreign_name, unended, scant, reader_stopped, many_names, long_listed, not_name}
use Rattle.limits.specs.declared.Refusal.{Refusal}
use Rattle.limits.specs.declared.Refusal.TheVariants.{ShortOutput, BadRecord, AfterEnd, WrongClose, TooDeep, TooManyNodes, TooManyHeld, Unfinished, BadLength}
use Rattle.limits.specs.declared.Refusal.TheVariants.{BadStep, Stopped, ShortRoom}
use Rattle.limits.specs.declared.Reason.{Reason}
use Rattle.limits.specs.declared.Reason.TheVariants.{Axis, Role, Hang, Zero}
use Rattle.limits.specs.declared.TextRefusal.{TextRefusal}
use Rattle.limits.specs.declared.TextRefusal.TheVariants.{Misplaced, NotChar, Doctype, Instruction, Cdata, CharReference, OtherEntity, LongName}
use Rattle.limits.specs.declared.TextRefusal.TheVariants.{ManyAttributes, Twice, OtherEnd, Nested, OtherEncoding, ForeignName, Unended, Scant, ReaderStopped}
use Rattle.limits.specs.declared.TextRefusal.TheVariants.{ManyNames, LongListed, NotName}

abbrev pub number : Refusal → ℕ
number ShortOutput = short_output
number BadRecord = bad_record
number AfterEnd = after_end
number WrongClose = wrong_close
number TooDeep = too_deep
number TooManyNodes = too_many_nodes
number TooManyHeld = too_many_held
number Unfinished = unfinished
number BadLength = bad_length
number BadStep = bad_step
number Stopped = already_stopped
number ShortRoom = short_room

abbrev pub reason_number : Reason → ℕ
reason_number Axis = bad_axis
reason_number Role = bad_role
reason_number Hang = bad_hang
reason_number Zero = bad_zero

abbrev pub text_number : TextRefusal → ℕ
text_number Misplaced = misplaced
text_number NotChar = not_char
text_number Doctype = doctype
text_number Instruction = instruction
text_number Cdata = cdata
text_number CharReference = char_reference
text_number OtherEntity = other_entity
text_number LongName = long_name
text_number ManyAttributes = many_attributes
text_number Twice = twice
text_number OtherEnd = other_end
text_number Nested = nested
text_number OtherEncoding = other_encoding
text_number ForeignName = foreign_name
text_number Unended = unended
text_number Scant = scant
text_number ReaderStopped = reader_stopped
text_number ManyNames = many_names
text_number LongListed = long_listed
text_number NotName = not_name

abbrev pub fault_in : {A : Type 0} → Result A Refusal → ℕ
fault_in (Ok a) = 0
fault_in (Err r) = number r

abbrev pub fault_of : Option Refusal → ℕ
fault_of None = 0
fault_of (Some r) = number r

abbrev pub reason_in : {A : Type 0} → Result A Reason → ℕ
reason_in (Ok a) = 0
reason_in (Err r) = reason_number r

abbrev pub reason_of : Option Reason → ℕ
reason_of None = 0
reason_of (Some r) = reason_number r

abbrev pub text_in : {A : Type 0} → Result A TextRefusal → ℕ
text_in (Ok a) = 0
text_in (Err r) = text_number r

abbrev pub text_of : Option TextRefusal → ℕ
text_of None = 0
text_of (Some r) = text_number r
