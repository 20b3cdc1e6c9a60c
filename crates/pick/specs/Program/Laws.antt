-- What is owed, by what the calls answered.
--
--   last_line_owed        the last line by finish's answer, the events taken and the refusal is the one that is owed
--   streamed_lined        and it is put for a stream that was worked on whole
--   refused_lined, admitted_lined      what the query's answer leaves to be written
--   silent_admitted       only an admitted query is answered by no line
--   outcome_written       the rest is written
--
-- Assumes nothing.
use Rattle.std.specs.Prelude.{ℕ, ◌≤◌, ◌<◌, ◌⊎◌, ◌≡◌, refl, Bool, true, false, ltb, length, take, Result, Ok, Err}
use Rattle.std.proofs.Common.{arith, inl, inr, sym, ◌∙◌, subst, length-append, ltb-true, ltb-false}
use Rattle.std.proofs.Math.Path.{ap}
use mathlib.Core.List.{List, [], ◌++◌}
use Rattle.std.proofs.Math.Option.{Option}
use Rattle.meaning.specs.Stream.{document}
use Rattle.meaning.specs.Standing.{listed}
use Rattle.meaning.specs.Offering.{offering_all}
use Rattle.query.specs.Answer.{Answer, admitted, answer_to}
use Rattle.query.specs.Decode.{decode}
use Rattle.limits.specs.declared.Refusal.{Refusal}
use Rattle.session.specs.declared.Counts.{Counts}
use Rattle.query.specs.Answer as query
use Rattle.query.specs.declared.QueryFault.TheVariants.{Length, Step}
use Rattle.session.specs.declared.StartFault.{StartFault}
use Rattle.session.specs.declared.StartFault.TheVariants as started
use Rattle.session.specs.Begin.{said}
use Rattle.session.specs.Event.{finish}
use Rattle.lines.specs.Put.{Put}
use Rattle.lines.specs.Text.{lines_of}
use Rattle.system.specs.declared.File.{File}
use Rattle.system.specs.Marks.{FileOpened, FileClosed, ReadOver, WriteTold, ReadFull, FileGiven, received, nothing_yet, Delivered, delivered, none_yet}
use Rattle.closing.specs.Line.{query_line, line_of_end}
use Rattle.reads.specs.declared.State.{State}
use Rattle.turns.specs.Turns.{Streamed}
use Rattle.turns.specs.Owed.{last_line_owed, query_silent, not_admitted, Declined, long_refused}
use Rattle.pick.specs.Events.{EventsLined}
use Rattle.pick.specs.Program.{last_line_by, owed_output_by, owed_output, query_name, events_name, Lined, Replied, Outcome}

-- the last line for a stream that was worked on whole
pub streamed_lined :
    {b : List ℕ} {file : File} {s : State} {E N : List ℕ} → FileOpened events_name file → FileClosed file → Streamed b file s E N →
    (f : Result Counts Refusal) →
    f ≡ finish s.session →
    (text : List ℕ) (r : ℕ) → take r text ≡ line_of_end f s.taken s.refusal → EventsLined b text r
streamed_lined {b} {file} {s} op cl st f e text r line =
    record {
      bytes = st.bytes;
      events_read = record { file = file; opened = op; received = st.received; closed = cl; to_end = st.to_end };
      delivered = st.delivered;
      line =
          line
          ∙ last_line_owed st.reached f e s.taken s.refusal st.going_on st.counted
          ∙ ap (λ (x : Option ℕ). last_line_by x (decode b) (offering_all (decode b) st.bytes).events) st.refusal_so;
    }

-- the query's answer

query_owed : (f : StartFault) (qs es : List ℕ) → query_line (Err f) ≡ owed_output_by (said (Err f)) qs es
unfolding owed_output_by said query.said
query_owed started.ShortRoom qs es = refl
query_owed (started.Query Length) qs es = refl
query_owed (started.Query (Step k r)) qs es = refl

-- a refused query: its line is all that is owed
pub refused_lined : {query text : List ℕ} {r : ℕ} → Declined query text r → Lined query text r
refused_lined {query} d =
    record {
      events = [];
      events_read = λ e. absurd (not_admitted d.fault (d.checked ∙ e));
      before = [];
      delivered = none_yet;
      owed_so = d.line ∙ query_owed d.fault query [] ∙ ap (λ (x : Answer). owed_output_by x query []) d.checked;
    }

-- only an admitted query is answered by no line
module _ (query : List ℕ) (a : Result (Unit {0}) StartFault) (checked : said a ≡ answer_to query) where
  module _ (text text' : List ℕ) (r : ℕ) (p : Put text 0 (query_line a) text' r) (none-put : r ≤ 0) where
    pub silent_admitted : a ≡ Ok tt
    silent_admitted = query_silent a (omega (arith, p.end))

-- an admitted query: the events' lines
pub admitted_lined : {query text : List ℕ} {r : ℕ} → answer_to query ≡ admitted → EventsLined query text r → Lined query text r
unfolding owed_output_by
admitted_lined {query} ok l =
    record {
      events = l.bytes;
      events_read = λ e. l.events_read;
      before = lines_of (listed (decode query) (document (offering_all (decode query) l.bytes).events));
      delivered = l.delivered;
      owed_so =
          ap (λ (x : List ℕ). lines_of (listed (decode query) (document (offering_all (decode query) l.bytes).events)) ++ x) l.line
          ∙ ap (λ (x : Answer). owed_output_by x query l.bytes) (sym ok);
    }

long_same : (qs more es : List ℕ) → 256 < length qs → owed_output (qs ++ more) es ≡ owed_output qs es
unfolding owed_output_by
long_same qs more es h =
    ap (λ (x : Answer). owed_output_by x (qs ++ more) es) (long_refused (qs ++ more) (omega (arith, length-append qs more)))
    ∙ ap (λ (x : Answer). owed_output_by x qs es) (sym (long_refused qs h))

query_end :
    (l : List ℕ) (n : ℕ) (file : File) → ReadFull file l n → 256 < length l →
    ReadOver file ⊎ ((more es : List ℕ) → owed_output (take n l ++ more) es ≡ owed_output (take n l) es)
query_end l n file g room = by (ltb n (length l)) refl
  where
    by : (x : Bool) → ltb n (length l) ≡ x → ReadOver file ⊎ ((more es : List ℕ) → owed_output (take n l ++ more) es ≡ owed_output (take n l) es)
    by true e = inl (g.over (ltb-true n (length l) e))
    by false e = inr (λ more es. long_same (take n l) more es (omega (arith, room, ltb-false n (length l) e, g.counts.1)))

-- the end

pub outcome_written :
    (l text : List ℕ) (n r : ℕ) → FileGiven query_name l n → 256 < length l → (taken : Bool) →
    WriteTold (take r text) taken → Replied (take n l) text r → Outcome
outcome_written l text n r g room true h (inl x) =
    inl
    (record {
      query = take n l;
      events = x.events;
      query_read =
          record {
            file = g.file;
            opened = g.opened;
            received = received nothing_yet (take n l) g.full.given;
            closed = g.closed;
            to_end = query_end l n g.file g.full room;
          };
      events_read = x.events_read;
      delivered = subst Delivered x.owed_so (delivered x.delivered (take r text) h);
    })
outcome_written l text n r g room false h (inl x) = inr (record { bytes = take r text; handed = h })
outcome_written l text n r g room taken h (inr f) = inr f.0
