-- No refusal and no reason has the number 0, and no two refusals have one number.
--
--   some_number, some_reason, some_text        so an answer with the number 0 is no refusal
--   refusal_at n             the refusal with the number n, none where no refusal has it
--   number_one, fault_one    two refusals with one number are equal; so are two that may be none
--   text_at, text_one, text_fault_one          the same of the refusals of text
--
-- Assumes nothing.
use Rattle.std.specs.Prelude.{ℕ, ◌<◌, ◌≡◌, refl, Option, Some, None, cond, eqb}
use Rattle.std.proofs.Common.{arith, sym, ap, ◌∙◌}
use Rattle.std.proofs.lemmas.Option.{same_Some}
use Rattle.limits.specs.declared.Refusal.{Refusal}
use Rattle.limits.specs.declared.Refusal.TheVariants.{ShortOutput, BadRecord, AfterEnd, WrongClose, TooDeep, TooManyNodes, TooManyHeld, Unfinished, BadLength}
use Rattle.limits.specs.declared.Refusal.TheVariants.{BadStep, Stopped, ShortRoom}
use Rattle.limits.specs.declared.Reason.{Reason}
use Rattle.limits.specs.declared.Reason.TheVariants.{Axis, Role, Hang, Zero}
use Rattle.limits.specs.declared.TextRefusal.{TextRefusal}
use Rattle.limits.specs.declared.TextRefusal.TheVariants.{Misplaced, NotChar, Doctype, Instruction, Cdata, CharReference, OtherEntity, LongName}
use Rattle.limits.specs.declared.TextRefusal.TheVariants.{ManyAttributes, Twice, OtherEnd, Nested, OtherEncoding, ForeignName, Unended, Scant, ReaderStopped}
use Rattle.limits.specs.declared.TextRefusal.TheVariants.{ManyNames, LongListed, NotName}
use Rattle.limits.specs.Number.{number, fault_of, reason_number, text_number, text_of}

pub some_number : (r : Refusal) → 0 < number r
some_number ShortOutput = omega arith
some_number BadRecord = omega arith
some_number AfterEnd = omega arith
some_number WrongClose = omega arith
some_number TooDeep = omega arith
some_number TooManyNodes = omega arith
some_number TooManyHeld = omega arith
some_number Unfinished = omega arith
some_number BadLength = omega arith
some_number BadStep = omega arith
some_number Stopped = omega arith
some_number ShortRoom = omega arith

pub some_reason : (r : Reason) → 0 < reason_number r
some_reason Axis = omega arith
some_reason Role = omega arith
some_reason Hang = omega arith
some_reason Zero = omega arith

pub some_text : (r : TextRefusal) → 0 < text_number r
some_text Misplaced = omega arith
some_text NotChar = omega arith
some_text Doctype = omega arith
some_text Instruction = omega arith
some_text Cdata = omega arith
some_text CharReference = omega arith
some_text OtherEntity = omega arith
some_text LongName = omega arith
some_text ManyAttributes = omega arith
some_text Twice = omega arith
some_text OtherEnd = omega arith
some_text Nested = omega arith
some_text OtherEncoding = omega arith
some_text ForeignName = omega arith
some_text Unended = omega arith
some_text Scant = omega arith
some_text ReaderStopped = omega arith
some_text ManyNames = omega arith
some_text LongListed = omega arith
some_text NotName = omega arith

-- a refusal by its number

unfoldable pub refusal_at : ℕ → Option Refusal
refusal_at n =
    cond (eqb n 1) (Some ShortOutput) (cond (eqb n 2) (Some BadRecord) (cond (eqb n 3) (Some AfterEnd) (cond (eqb n 4) (Some WrongClose)
    (cond (eqb n 5) (Some TooDeep) (cond (eqb n 6) (Some TooManyNodes) (cond (eqb n 7) (Some TooManyHeld) (cond (eqb n 8) (Some Unfinished)
    (cond (eqb n 9) (Some BadLength) (cond (eqb n 10) (Some BadStep) (cond (eqb n 11) (Some Stopped) (cond (eqb n 15) (Some ShortRoom) None)))))))))))

number_back : (r : Refusal) → refusal_at (number r) ≡ Some r
unfolding refusal_at
number_back ShortOutput = refl
number_back BadRecord = refl
number_back AfterEnd = refl
number_back WrongClose = refl
number_back TooDeep = refl
number_back TooManyNodes = refl
number_back TooManyHeld = refl
number_back Unfinished = refl
number_back BadLength = refl
number_back BadStep = refl
number_back Stopped = refl
number_back ShortRoom = refl

pub number_one : (r t : Refusal) → number r ≡ number t → r ≡ t
number_one r t e = same_Some r t (sym (number_back r) ∙ ap refusal_at e ∙ number_back t)

fault_back : (o : Option Refusal) → refusal_at (fault_of o) ≡ o
unfolding refusal_at
fault_back None = refl
fault_back (Some r) = number_back r

pub fault_one : (o p : Option Refusal) → fault_of o ≡ fault_of p → o ≡ p
fault_one o p e = sym (fault_back o) ∙ ap refusal_at e ∙ fault_back p

-- a refusal of text by its number

unfoldable pub text_at : ℕ → Option TextRefusal
text_at n =
    cond (eqb n 30) (Some Misplaced) (cond (eqb n 31) (Some NotChar) (cond (eqb n 32) (Some Doctype) (cond (eqb n 33) (Some Instruction) (
    cond (eqb n 34) (Some Cdata) (cond (eqb n 35) (Some CharReference) (cond (eqb n 36) (Some OtherEntity) (cond (eqb n 37) (Some LongName) (
    cond (eqb n 38) (Some ManyAttributes) (cond (eqb n 39) (Some Twice) (cond (eqb n 40) (Some OtherEnd) (cond (eqb n 41) (Some Nested) (
    cond (eqb n 42) (Some OtherEncoding) (cond (eqb n 43) (Some ForeignName) (cond (eqb n 44) (Some Unended) (cond (eqb n 45) (Some Scant) (
    cond (eqb n 46) (Some ReaderStopped) (cond (eqb n 47) (Some ManyNames) (cond (eqb n 48) (Some LongListed) (
    cond (eqb n 49) (Some NotName) None)))))))))))))))))))

text_back : (r : TextRefusal) → text_at (text_number r) ≡ Some r
unfolding text_at
text_back Misplaced = refl
text_back NotChar = refl
text_back Doctype = refl
text_back Instruction = refl
text_back Cdata = refl
text_back CharReference = refl
text_back OtherEntity = refl
text_back LongName = refl
text_back ManyAttributes = refl
text_back Twice = refl
text_back OtherEnd = refl
text_back Nested = refl
text_back OtherEncoding = refl
text_back ForeignName = refl
text_back Unended = refl
text_back Scant = refl
text_back ReaderStopped = refl
text_back ManyNames = refl
text_back LongListed = refl
text_back NotName = refl

pub text_one : (r t : TextRefusal) → text_number r ≡ text_number t → r ≡ t
text_one r t e = same_Some r t (sym (text_back r) ∙ ap text_at e ∙ text_back t)

text_fault_back : (o : Option TextRefusal) → text_at (text_of o) ≡ o
unfolding text_at
text_fault_back None = refl
text_fault_back (Some r) = text_back r

pub text_fault_one : (o p : Option TextRefusal) → text_of o ≡ text_of p → o ≡ p
text_fault_one o p e = sym (text_fault_back o) ∙ ap text_at e ∙ text_fault_back p
