-- WHAT THE PROGRAM OWES, and what it promises of a run.
--
--   last_line_of q w      the last line for a stream that came to w
--   text_of q w          all that is written for it: a line for each node listed, and the last line
--   owed_output qs es    all that is written for the files `query.rec`, whose bytes are qs, and `events.rec`, whose bytes are es;  owed_output_by: by the
--                       answer to the query
--   query_name, events_name     the files' names
--   Read name bytes Same      a file of this name was opened and closed, and reads of it gave the bytes, up to its end or so far that whatever may
--                             follow changes nothing: Same (bytes ++ more) for each more.  QueryRead, EventsRead q: what must not change
--   Lined query text r        what is owed for the query is delivered but for what stands in the first r bytes of the text
--   Replied query text r      Lined; or Failed, and then no text is left to be written
--   Completed           the files were read, and what is owed for the bytes that the reads gave was handed to standard output, piece by piece, and taken
--   Outcome             WHAT A RUN OF THE PROGRAM COMES TO: Completed or Failed
--
-- Assumes nothing. NOT here: what a stream of bytes comes to (crate meaning, Offering), the lines' bytes (crate lines, Text), what "given", "handed" and
-- "delivered" are, and `Failed`, that standard output did not take all that was handed to it (crate system, Marks).
pub mod Laws
use Rattle.std.specs.Prelude.{ℕ, ◌+◌, ◌⊎◌, ◌≡◌, List, [], ◌∷◌, ◌++◌, take}
use Rattle.meaning.specs.Query.{Query}
use Rattle.meaning.specs.Stream.{document}
use Rattle.meaning.specs.Standing.{listed}
use Rattle.meaning.specs.Offering.{Offering, offering_all}
use Rattle.query.specs.Answer.{Answer, admitted, refused, refused_at, answer_to}
use Rattle.query.specs.Decode.{decode}
use Rattle.lines.specs.Text.{lines_of, refused_for_line, refused_line}
use Rattle.turns.specs.Owed.{last_line_by}
use Rattle.system.specs.declared.File.{File}
use Rattle.system.specs.Marks.{FileOpened, FileClosed, ReadOver, Received, Delivered, Failed}

abbrev pub last_line_of : Query → Offering → List ℕ
last_line_of q w = last_line_by w.refusal q w.events

abbrev pub text_of : Query → Offering → List ℕ
text_of q w = lines_of (listed q (document w.events)) ++ last_line_of q w

-- "The query is judged first"
unfoldable pub owed_output_by : Answer → List ℕ → List ℕ → List ℕ
owed_output_by admitted qs es = text_of (decode qs) (offering_all (decode qs) es)
owed_output_by (refused n) qs es = refused_line n
owed_output_by (refused_at n k r) qs es = refused_for_line n k r

abbrev pub owed_output : List ℕ → List ℕ → List ℕ
owed_output qs es = owed_output_by (answer_to qs) qs es

-- "query.rec" and "events.rec"
abbrev pub query_name : List ℕ
query_name = 113 ∷ 117 ∷ 101 ∷ 114 ∷ 121 ∷ 46 ∷ 114 ∷ 101 ∷ 99 ∷ []

abbrev pub events_name : List ℕ
events_name = 101 ∷ 118 ∷ 101 ∷ 110 ∷ 116 ∷ 115 ∷ 46 ∷ 114 ∷ 101 ∷ 99 ∷ []

pub record Read (name bytes : List ℕ) (Same : List ℕ → Type 0) : Type 0 where
  pub file : File
  pub opened : FileOpened name file
  pub received : Received file bytes
  pub closed : FileClosed file
  pub to_end : ReadOver file ⊎ ((more : List ℕ) → Same (bytes ++ more))

abbrev pub QueryRead : List ℕ → Type 0
QueryRead query = Read query_name query (λ longer. (events : List ℕ) → owed_output longer events ≡ owed_output query events)

abbrev pub EventsRead : Query → List ℕ → Type 0
EventsRead q events = Read events_name events (λ longer. offering_all q longer ≡ offering_all q events)

-- events are read only for an admitted query
pub record Lined (query text : List ℕ) (r : ℕ) : Type 0 where
  pub events : List ℕ
  pub events_read : answer_to query ≡ admitted → EventsRead (decode query) events
  pub before : List ℕ
  pub delivered : Delivered before
  pub owed_so : before ++ take r text ≡ owed_output query events

abbrev pub Replied : List ℕ → List ℕ → ℕ → Type 0
Replied query text r = Lined query text r ⊎ (Failed × (r ≡ 0))

pub record Completed : Type 0 where
  pub query : List ℕ
  pub events : List ℕ
  pub query_read : QueryRead query
  pub events_read : answer_to query ≡ admitted → EventsRead (decode query) events
  pub delivered : Delivered (owed_output query events)

abbrev pub Outcome : Type 0
Outcome = Completed ⊎ Failed
