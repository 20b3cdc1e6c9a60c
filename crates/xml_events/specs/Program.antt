-- WHAT THE PROGRAM OWES, and what it promises of a run.
--
--   verdict_on names text     the verdict: that on the list of names, and for a list that is taken that on the text
--   owed_records names text   all that is written to standard output
--   Complained v             the refusal's line was handed to standard error; nothing where there is none
--   more_to_do refusal ended written      another turn is taken
--   ReadAll N X file i       the turns have come to the end of the text, or to a refused byte, and all records of its events are delivered
--   TextAnswered N X v       the text was read, v is the verdict on it, and the records of its events are delivered; or Failed
--   Answered v               the same with the list of names
--   Completed                the files were read, and what is owed for the bytes that the reads gave was handed to standard output, piece by piece, and
--                            taken, and a refusal to standard error
--   Outcome                  WHAT A RUN OF THE PROGRAM COMES TO: Completed or Failed
--
-- Assumes nothing. NOT here: the verdict on a text and its events' records (crate intake, Owed), that on a list (crate listed), the line's bytes (crate lines,
-- Text), what "given", "handed" and "delivered" are, and `Failed`, that standard output did not take all that was handed to it (crate system, Marks).
pub mod Laws
use Rattle.std.specs.Prelude.{ℕ, ◌+◌, ◌≤◌, ◌⊎◌, ◌≡◌, Bool, false, List, [], Option, None, Some, eqb}
use Rattle.choice.specs.When.{when}
use Rattle.xml.specs.Grammar.{Ev}
use Rattle.listed.specs.Listed.{list_answer}
use Rattle.names.specs.Number.{number_of}
use Rattle.reader_right.specs.Records.{records_in}
use Rattle.lines.specs.Text.{refused_at_line}
use Rattle.system.specs.declared.File.{File}
use Rattle.system.specs.Marks.{ErrorTold, Delivered, Failed}
use Rattle.intake.specs.declared.Intake.{Intake}
use Rattle.intake.specs.Owed.{Judged, refused_at, text_verdict, text_events, text_records}
use Rattle.intake.specs.Names.{NamesRead}
use Rattle.intake.specs.Intake.{longest}
use Rattle.intake.specs.Catalogue.{CatalogueRead, Told}

-- the list is judged first
unfoldable pub verdict_on : List ℕ → List ℕ → Option Judged
verdict_on names text =
    when (eqb (list_answer names).refusal 0) (text_verdict text) (refused_at (list_answer names).refusal (list_answer names).line)

unfoldable pub owed_records : List ℕ → List ℕ → List ℕ
owed_records names text = when (eqb (list_answer names).refusal 0) (text_records names text) []

-- the line is `refused R at E`
pub data Complained : Option Judged → Type 0 where
  silent : Complained None
  said : {v : Judged} (taken : Bool) → ErrorTold (refused_at_line v.refusal v.at) taken → Complained (Some v)

unfoldable pub more_to_do : ℕ → Bool → Bool → Bool
more_to_do refusal ended written = when (eqb refusal 0) (when ended false written) false

pub record ReadAll (N X : List ℕ) (file : File) (i : Intake) : Type 0 where
  pub few : i.taken ≤ longest + 65536
  pub events : List Ev
  pub told : Told file i events
  pub delivered : Delivered (records_in (number_of N X) events)

pub record TextLined (N X : List ℕ) (v : Option Judged) : Type 0 where
  pub text : List ℕ
  pub text_read : CatalogueRead text
  pub verdict_so : v ≡ text_verdict text
  pub delivered : Delivered (records_in (number_of N X) (text_events text))

abbrev pub TextAnswered : List ℕ → List ℕ → Option Judged → Type 0
TextAnswered N X v = TextLined N X v ⊎ (Failed × (v ≡ None))

-- a text is read only for a list that is taken
pub record Lined (v : Option Judged) : Type 0 where
  pub names : List ℕ
  pub text : List ℕ
  pub names_read : NamesRead names
  pub text_read : (list_answer names).refusal ≡ 0 → CatalogueRead text
  pub verdict_so : v ≡ verdict_on names text
  pub delivered : Delivered (owed_records names text)

abbrev pub Answered : Option Judged → Type 0
Answered v = Lined v ⊎ (Failed × (v ≡ None))

pub record Completed : Type 0 where
  pub names : List ℕ
  pub text : List ℕ
  pub names_read : NamesRead names
  pub text_read : (list_answer names).refusal ≡ 0 → CatalogueRead text
  pub delivered : Delivered (owed_records names text)
  pub complained : Complained (verdict_on names text)

abbrev pub Outcome : Type 0
Outcome = Completed ⊎ Failed
