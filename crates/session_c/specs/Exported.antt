-- What the calls for C and Rust answer, and all that was lent to them afterwards, for every value of it.
--
--   no_session               the answer to a session of another length, and to counts of another length: nothing changes then
--   began q E N S           begin with the query q (crate session, Begin);  started_by a t S: the session's bytes after the answer a
--   took S bytes E N out    an event on the session in the bytes S (crate session, Event);  number_of a: its answer as a number;
--                          laid_by a t S: the session's bytes after the answer a
--   blocked S es E N out C  a block of events (crate session, Run);  moved_by n r t S: the session's bytes after n events and the refusal r
--   finished S C            finish (crate session, Event);  end_number f: its answer as a number;  counted_by f C: the counts after it
--   ExportBegins, ExportTakes, ExportRuns, ExportFinishes      THE PROMISES of `compassflare_begin`, `compassflare_event`, `compassflare_run` and
--                           `compassflare_finish`: the result r, and all that was lent on return, are those
--
-- Assumes nothing. NOT here: the session in bytes (Laid), the query's answer as a number (crate query_c, Packed), that the promises allow one result (Laws).
pub mod Offered
use Rattle.std.specs.Prelude.{ℕ, ◌*◌, ◌/◌, ◌≡◌, List, Result, Ok, Err, eqb, length}
use Rattle.choice.specs.When.{when}
use Rattle.limits.specs.declared.Refusal.{Refusal}
use Rattle.limits.specs.Number.{number}
use Rattle.query.specs.Answer as query
use Rattle.query_c.specs.Packed.{packed}
use Rattle.feed.specs.Fed.{Fed, fed}
use Rattle.session.specs.declared.Session.{Session}
use Rattle.session.specs.declared.Answer.{Answer}
use Rattle.session.specs.declared.Answer.TheVariants.{Refused, Taken}
use Rattle.session.specs.declared.Counts.{Counts}
use Rattle.session.specs.Begin.{Begun, begun}
use Rattle.session.specs.Event.{Done, event}
use Rattle.session.specs.Event as session
use Rattle.session.specs.Run.{Housed, housed, event_at}
use Rattle.session_c.specs.Laid.{session_room, session_in, session_bytes, marked_bytes, counts_room, count_bytes}

abbrev pub no_session : ℕ
no_session = 255

-- begin

pub record Began : Type 0 where
  pub number : ℕ
  pub session : List ℕ

-- "beside a refused query's number stands one fixed blank session": it is not laid in the bytes
unfoldable pub started_by : query.Answer → Session → List ℕ → List ℕ
started_by query.admitted t S = session_bytes t
started_by (query.refused n) t S = S
started_by (query.refused_at n k r) t S = S

abbrev pub began_with : List ℕ → Begun → Began
began_with S b = record { number = packed b.answer; session = started_by b.answer b.session S }

unfoldable pub began : List ℕ → List ℕ → List ℕ → List ℕ → Began
began q E N S = when (eqb (length S) session_room) (began_with S (begun q E N)) (record { number = no_session; session = S })

abbrev pub ExportBegins : List ℕ → List ℕ → List ℕ → List ℕ → ℕ → List ℕ → Type 0
ExportBegins q E N S r S' = record { number = r; session = S' } ≡ began q E N S

-- an event

pub record Took : Type 0 where
  pub number : ℕ
  pub session : List ℕ
  pub elements : List ℕ
  pub nodes : List ℕ
  pub out : List ℕ

unfoldable pub number_of : Answer → ℕ
number_of (Refused n) = n
number_of (Taken k) = 256 * k

-- "The refused call changes nothing but this"
unfoldable pub laid_by : Answer → Session → List ℕ → List ℕ
laid_by (Refused n) t S = marked_bytes n S
laid_by (Taken k) t S = session_bytes t

abbrev pub took_with : List ℕ → Done → Took
took_with S d =
    record {
      number = number_of d.answer;
      session = laid_by d.answer d.session S;
      elements = d.elements;
      nodes = d.nodes;
      out = d.out;
    }

unfoldable pub took : List ℕ → List ℕ → List ℕ → List ℕ → List ℕ → Took
took S bytes E N out =
    when (eqb (length S) session_room) (took_with S (event (session_in S) bytes E N out))
    (record { number = no_session; session = S; elements = E; nodes = N; out = out })

abbrev pub ExportTakes : List ℕ → List ℕ → List ℕ → List ℕ → List ℕ → ℕ → List ℕ → List ℕ → List ℕ → List ℕ → Type 0
ExportTakes S bytes E N out r S' E' N' out' =
    record { number = r; session = S'; elements = E'; nodes = N'; out = out' } ≡ took S bytes E N out

-- a block of events

pub record Blocked : Type 0 where
  pub number : ℕ
  pub session : List ℕ
  pub elements : List ℕ
  pub nodes : List ℕ
  pub out : List ℕ
  pub counts : List ℕ

unfoldable pub moved_by : ℕ → ℕ → Session → List ℕ → List ℕ
moved_by n r t S = when (eqb n 0) (marked_bytes r S) (session_bytes t)

-- the counts are how many events were taken and how many list records stand at the start of the buffer
abbrev pub blocked_with : List ℕ → Fed Housed → Blocked
blocked_with S f =
    record {
      number = f.refusal;
      session = moved_by f.taken f.refusal f.seat.session S;
      elements = f.seat.elements;
      nodes = f.seat.nodes;
      out = f.out;
      counts = count_bytes f.taken f.listed;
    }

abbrev pub unblocked : List ℕ → List ℕ → List ℕ → List ℕ → List ℕ → Blocked
unblocked S E N out C = record { number = no_session; session = S; elements = E; nodes = N; out = out; counts = C }

unfoldable pub blocked : List ℕ → List ℕ → List ℕ → List ℕ → List ℕ → List ℕ → Blocked
blocked S es E N out C =
    when (eqb (length S) session_room)
    (when (eqb (length C) counts_room) (blocked_with S (fed event_at (length es / 8) (housed (session_in S) E N) es out)) (unblocked S E N out C))
    (unblocked S E N out C)

abbrev pub ExportRuns :
    List ℕ → List ℕ → List ℕ → List ℕ → List ℕ → List ℕ → ℕ → List ℕ → List ℕ → List ℕ → List ℕ → List ℕ → Type 0
ExportRuns S es E N out C r S' E' N' out' C' =
    record { number = r; session = S'; elements = E'; nodes = N'; out = out'; counts = C' } ≡ blocked S es E N out C

-- finish

pub record Finished : Type 0 where
  pub number : ℕ
  pub counts : List ℕ

unfoldable pub end_number : Result Counts Refusal → ℕ
end_number (Err r) = number r
end_number (Ok c) = 0

unfoldable pub counted_by : Result Counts Refusal → List ℕ → List ℕ
counted_by (Err r) C = C
counted_by (Ok c) C = count_bytes c.opened c.handed

abbrev pub unfinished : List ℕ → Finished
unfinished C = record { number = no_session; counts = C }

unfoldable pub finished : List ℕ → List ℕ → Finished
finished S C =
    let f : Result Counts Refusal = session.finish (session_in S) in
    when (eqb (length S) session_room)
    (when (eqb (length C) counts_room) (record { number = end_number f; counts = counted_by f C }) (unfinished C))
    (unfinished C)

abbrev pub ExportFinishes : List ℕ → List ℕ → ℕ → List ℕ → Type 0
ExportFinishes S C r C' = record { number = r; counts = C' } ≡ finished S C
