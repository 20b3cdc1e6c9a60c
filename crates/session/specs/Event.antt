-- What event and finish answer, for every session value and all lent room, reached or not, scribbled on or not.
--
--   Done                     an event's answer, the next session, and all that was lent, byte for byte
--   refused n s E N out      a refusal beside the session s and all that was lent
--   session_of kept n        the session that keeps `kept` of its query and has the numbers n
--   session_numbers s, with_numbers s n       the session's numbers; the same session with the numbers n
--   stopped_by r s            the session s after the refusal r: "The refused call changes nothing but this"
--   answer_by r k             the answer of an event that was refused with r, or, where that is 0, handed out k nodes
--   settled s c              an event on the session's numbers and the room that came to c, as one on the session
--   event s bytes E N out    an event, by its bytes, on any room (crate offer)
--   told_as, told_of           the same with the answer in document 01's number and values (Told)
--   EventGives s bytes E N out r E' N' out'      THE PROMISE of `event`: its result r, and all that was lent on return, are those
--   finish s                 the nodes opened and handed out, or refusal 11 or 8
--   FinishGives s r          THE PROMISE of `finish`: its result r stands for that
--
-- Assumes nothing. NOT here: what an event does to numbers and room (crates offer, stop, step), which bytes are which event (crate meaning, Record).
pub mod Laws
use Rattle.std.specs.Prelude.{ℕ, ◌≡◌, not, ◌||◌, List, Result, Ok, Err, eqb}
use mir.Val.{bool_byte}
use Rattle.choice.specs.When.{when}
use Rattle.meaning.specs.Answer as meaning
use Rattle.meaning.specs.Refusals.{stops}
use Rattle.limits.specs.declared.Refusal.{Refusal}
use Rattle.limits.specs.declared.Refusal.TheVariants.{Stopped, Unfinished}
use Rattle.numbers.specs.Numbers as numbers
use Rattle.numbers.specs.Numbers.{Numbers}
use Rattle.plan_bytes.specs.Kept.{kept_in}
use Rattle.feed.specs.Fed.{Came}
use Rattle.feed.specs.Steps.{Seat, seat}
use Rattle.offer.specs.Offer.{offered}
use Rattle.session.specs.declared.Session.{Session}
use Rattle.session.specs.declared.Answer.{Answer}
use Rattle.session.specs.declared.Answer.TheVariants.{Refused, Taken}
use Rattle.session.specs.declared.Next.{Next}
use Rattle.session.specs.declared.Counts.{Counts}
use Rattle.session.specs.Told.{told, ended}

pub record Done : Type 0 where
  pub answer : Answer
  pub session : Session
  pub elements : List ℕ
  pub nodes : List ℕ
  pub out : List ℕ

abbrev pub refused : ℕ → Session → List ℕ → List ℕ → List ℕ → Done
refused n s E N out = record { answer = Refused n; session = s; elements = E; nodes = N; out = out }

abbrev pub session_numbers : Session → Numbers
session_numbers s = numbers.numbers_of s.depth s.held s.opened s.handed (bool_byte s.ended) (bool_byte s.stopped)

abbrev pub session_of : List ℕ → Numbers → Session
session_of kept n =
    record {
      kept = kept;
      depth = n.depth;
      held = n.held;
      opened = n.opened;
      handed = n.handed;
      ended = not (eqb n.ended 0);
      stopped = not (eqb n.stopped 0);
    }

abbrev pub with_numbers : Session → Numbers → Session
with_numbers s n = session_of s.kept n

abbrev pub stopped_by : ℕ → Session → Session
stopped_by r s =
    record {
      kept = s.kept;
      depth = s.depth;
      held = s.held;
      opened = s.opened;
      handed = s.handed;
      ended = s.ended;
      stopped = s.stopped || stops r;
    }

unfoldable pub answer_by : ℕ → ℕ → Answer
answer_by refusal listed = when (eqb refusal 0) (Taken listed) (Refused refusal)

unfoldable pub settled : Session → Came Seat → Done
settled s c =
    record {
      answer = answer_by c.refusal c.listed;
      session = with_numbers s c.seat.numbers;
      elements = c.seat.elements;
      nodes = c.seat.nodes;
      out = c.out;
    }

unfoldable pub event : Session → List ℕ → List ℕ → List ℕ → List ℕ → Done
event s bytes E N out = settled s (offered (kept_in s.kept) (seat (session_numbers s) E N) bytes out)

-- the same in document 01's numbers and values
pub record ToldDone : Type 0 where
  pub answer : meaning.Answer
  pub session : Session
  pub elements : List ℕ
  pub nodes : List ℕ
  pub out : List ℕ

abbrev pub told_as : Answer → Session → List ℕ → List ℕ → List ℕ → ToldDone
told_as a s E N out = record { answer = told a out; session = s; elements = E; nodes = N; out = out }

abbrev pub told_of : Done → ToldDone
told_of d = told_as d.answer d.session d.elements d.nodes d.out

abbrev pub EventGives : Session → List ℕ → List ℕ → List ℕ → List ℕ → Next → List ℕ → List ℕ → List ℕ → Type 0
EventGives s bytes E N out r E' N' out' = told_as r.answer r.session E' N' out' ≡ told_of (event s bytes E N out)

-- "every later event and every later finish gets 11"; "8: no document element yet, or it is still open"
unfoldable pub finish : Session → Result Counts Refusal
finish s = when s.stopped (Err Stopped) (when s.ended (Ok (record { opened = s.opened; handed = s.handed })) (Err Unfinished))

abbrev pub FinishGives : Session → Result Counts Refusal → Type 0
FinishGives s r = ended r ≡ ended (finish s)
