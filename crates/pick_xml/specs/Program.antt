-- WHAT THE PROGRAM OWES, and what it promises of a run.
--
--   text_line l v             the last line where no event was refused: by the text's verdict v, or l where it has no refusal
--   last_line_for o q es v    the last line for a text with the verdict v whose events came to es and the refusal o
--   line_of st               the same, by what the turns have come to
--   picked_for q names text  all that is written for a text, by a query that is admitted and a list that is taken
--   owed_for qs names text   by the answer to the list of names;  owed_output: by the answer to the query
--   TextEnough q names text     so much was read: as many bytes as are asked for, or so far that whatever follows changes nothing of what is owed
--   QueryRead, TextRead         the query's file, and that of the text, were read
--   TextLined, NamesLined, Lined     what is owed is delivered but for what stands in the first r bytes of the lines: the last line of a text; all for a list
--                           of names; all for a query
--   TextAnswered, NamesAnswered, Replied     so; or standard output failed, and no line is left to be written
--   Completed               the files were read, and what is owed for the bytes that the reads gave was handed to standard output, piece by piece, and taken
--   Outcome                 WHAT A RUN OF THE PROGRAM COMES TO: Completed or Failed
--
-- N and X are the list of names and its index, as they are lent. Assumes nothing. NOT here: the verdict on a text and its events (crate intake, Owed), that on
-- a list (crate listed), what offering records comes to (crate meaning, Offering), the lines' bytes (crate lines, Text), what "given", "handed" and
-- "delivered" are (crate system, Marks).
pub mod Laws
use Rattle.std.specs.Prelude.{ℕ, ◌+◌, ◌≤◌, ◌⊎◌, ◌≡◌, List, [], ◌∷◌, ◌++◌, Option as Perhaps, None, Some, eqb, length, take}
use Rattle.std.proofs.Math.Option.{Option, none, some}
use Rattle.choice.specs.When.{when}
use Rattle.meaning.specs.Query.{Query}
use Rattle.meaning.specs.Stream.{Event, document}
use Rattle.meaning.specs.Standing.{listed}
use Rattle.meaning.specs.Offering.{Offering, offering_all}
use Rattle.query.specs.Answer.{Answer, admitted, refused, refused_at, answer_to}
use Rattle.query.specs.Decode.{decode}
use Rattle.listed.specs.Listed.{list_answer}
use Rattle.names.specs.Number.{number_of}
use Rattle.session.specs.declared.Session.{Session}
use Rattle.session.specs.Event.{finish}
use Rattle.lines.specs.Text.{lines_of, refused_at_line, refused_for_line, refused_line}
use Rattle.system.specs.Marks.{Delivered, Failed}
use Rattle.closing.specs.Line.{line_of_end}
use Rattle.turns.specs.Turns.{BegunFor}
use Rattle.turns.specs.Owed.{finish_line_of}
use Rattle.intake.specs.Owed.{Judged, text_verdict, text_records}
use Rattle.intake.specs.Names.{FileRead, NamesRead}
use Rattle.intake.specs.Intake.{longest, verdict_for}
use Rattle.intake.specs.Catalogue.{catalogue_name}
use Rattle.text_turns.specs.declared.Stand.{Stand}
use Rattle.text_turns.specs.Picked.{offered_text}

abbrev pub text_line : List ℕ → Perhaps Judged → List ℕ
text_line l None = l
text_line l (Some v) = refused_at_line v.refusal v.at

-- "for the picker's refusals, 5 to 7, E is the number of the refused event; for 30 to 44 that of the byte"
unfoldable pub last_line_for : Option ℕ → Query → List Event → Perhaps Judged → List ℕ
last_line_for (some r) q es v = refused_at_line r (length es + 1)
last_line_for none q es v = text_line (finish_line_of q es) v

unfoldable pub line_of : Stand → List ℕ
line_of st =
    when (eqb st.state.refusal 0)
    (text_line (line_of_end (finish st.state.session) st.state.taken st.state.refusal) (verdict_for st.intake))
    (line_of_end (finish st.state.session) st.state.taken st.state.refusal)

abbrev pub written_for : Query → Offering → Perhaps Judged → List ℕ
written_for q w v = lines_of (listed q (document w.events)) ++ last_line_for w.refusal q w.events v

abbrev pub picked_for : Query → List ℕ → List ℕ → List ℕ
picked_for q names text = written_for q (offering_all q (text_records names text)) (text_verdict text)

-- the list is judged before the text
unfoldable pub owed_for : List ℕ → List ℕ → List ℕ → List ℕ
owed_for qs names text =
    when (eqb (list_answer names).refusal 0) (picked_for (decode qs) names text) (refused_at_line (list_answer names).refusal (list_answer names).line)

-- "The query is judged first"
unfoldable pub owed_output_by : Answer → List ℕ → List ℕ → List ℕ → List ℕ
owed_output_by admitted qs names text = owed_for qs names text
owed_output_by (refused n) qs names text = refused_line n
owed_output_by (refused_at n k r) qs names text = refused_for_line n k r

abbrev pub owed_output : List ℕ → List ℕ → List ℕ → List ℕ
owed_output qs names text = owed_output_by (answer_to qs) qs names text

-- "query.rec"
abbrev pub query_name : List ℕ
query_name = 113 ∷ 117 ∷ 101 ∷ 114 ∷ 121 ∷ 46 ∷ 114 ∷ 101 ∷ 99 ∷ []

abbrev pub QueryRead : List ℕ → Type 0
QueryRead query = FileRead query_name query ((more names text : List ℕ) → owed_output (query ++ more) names text ≡ owed_output query names text)

abbrev pub TextEnough : Query → List ℕ → List ℕ → Type 0
TextEnough q names text = (longest ≤ length text) ⊎ ((more : List ℕ) → picked_for q names (text ++ more) ≡ picked_for q names text)

abbrev pub TextRead : Query → List ℕ → List ℕ → Type 0
TextRead q names text = FileRead catalogue_name text (TextEnough q names text)

-- by the numbers that the index gives
abbrev pub picked_by : List ℕ → (List ℕ → ℕ) → List ℕ → List ℕ
picked_by b f text = written_for (decode b) (offered_text b f text) (text_verdict text)

pub record TextLined (b N X lines : List ℕ) (r : ℕ) : Type 0 where
  pub text : List ℕ
  pub text_read :
      FileRead catalogue_name text
      ((longest ≤ length text) ⊎ ((more : List ℕ) → picked_by b (number_of N X) (text ++ more) ≡ picked_by b (number_of N X) text))
  pub before : List ℕ
  pub delivered : Delivered before
  pub owed_so : before ++ take r lines ≡ picked_by b (number_of N X) text

abbrev pub TextAnswered : Session → List ℕ → List ℕ → List ℕ → ℕ → Type 0
TextAnswered session N X lines r = ((b : List ℕ) → BegunFor b session → TextLined b N X lines r) ⊎ (Failed × (r ≡ 0))

pub record NamesLined (b lines : List ℕ) (r : ℕ) : Type 0 where
  pub names : List ℕ
  pub text : List ℕ
  pub names_read : NamesRead names
  pub text_read : (list_answer names).refusal ≡ 0 → TextRead (decode b) names text
  pub before : List ℕ
  pub delivered : Delivered before
  pub owed_so : before ++ take r lines ≡ owed_for b names text

abbrev pub NamesAnswered : Session → List ℕ → ℕ → Type 0
NamesAnswered session lines r = ((b : List ℕ) → BegunFor b session → NamesLined b lines r) ⊎ (Failed × (r ≡ 0))

-- the list and the text are read only for an admitted query, and the text only for a list that is taken
pub record Lined (query lines : List ℕ) (r : ℕ) : Type 0 where
  pub names : List ℕ
  pub text : List ℕ
  pub names_read : answer_to query ≡ admitted → NamesRead names
  pub text_read : answer_to query ≡ admitted → (list_answer names).refusal ≡ 0 → TextRead (decode query) names text
  pub before : List ℕ
  pub delivered : Delivered before
  pub owed_so : before ++ take r lines ≡ owed_output query names text

abbrev pub Replied : List ℕ → List ℕ → ℕ → Type 0
Replied query lines r = Lined query lines r ⊎ (Failed × (r ≡ 0))

pub record Completed : Type 0 where
  pub query : List ℕ
  pub names : List ℕ
  pub text : List ℕ
  pub query_read : QueryRead query
  pub names_read : answer_to query ≡ admitted → NamesRead names
  pub text_read : answer_to query ≡ admitted → (list_answer names).refusal ≡ 0 → TextRead (decode query) names text
  pub delivered : Delivered (owed_output query names text)

abbrev pub Outcome : Type 0
Outcome = Completed ⊎ Failed
