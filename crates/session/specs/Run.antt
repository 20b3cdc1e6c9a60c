-- What a block of events answers: the same as single events one after the other.
--
--   Housed, housed s E N         what an event is taken at: the session and the lent room
--   refusal_of a, listed_of a   an answer's refusal number, or 0, and how many nodes it hands out
--   event_at l bytes out      one event (Event), as what one event comes to
--   ran r E N out            a result of `run` and all that was lent, as what a block comes to
--   run_within s es E N out   a block on the room that is needed, by steps (crate feed)
--   RunGives s es E N out r E' N' out'      THE PROMISE of `run`: its result r, and all that was lent on return, are what single events come to
--
-- Assumes nothing. NOT here: that steps on the room that is needed are single events (Run.Laws).
pub mod Laws
use Rattle.std.specs.Prelude.{ℕ, ◌/◌, ◌≡◌, List, length}
use Rattle.limits.specs.Number.{fault_of}
use Rattle.plan_bytes.specs.Kept.{kept_in}
use Rattle.feed.specs.Fed.{Came, Fed, fed}
use Rattle.feed.specs.Fed.Across.{all_across}
use Rattle.feed.specs.Steps.{Seat, seat, step_at}
use Rattle.session.specs.declared.Session.{Session}
use Rattle.session.specs.declared.Answer.{Answer}
use Rattle.session.specs.declared.Answer.TheVariants.{Refused, Taken}
use Rattle.session.specs.declared.Ran.{Ran}
use Rattle.session.specs.Event.{Done, session_numbers, with_numbers, event}

pub record Housed : Type 0 where
  pub session : Session
  pub elements : List ℕ
  pub nodes : List ℕ

abbrev pub housed : Session → List ℕ → List ℕ → Housed
housed s E N = record { session = s; elements = E; nodes = N }

unfoldable pub refusal_of : Answer → ℕ
refusal_of (Refused n) = n
refusal_of (Taken k) = 0

unfoldable pub listed_of : Answer → ℕ
listed_of (Refused n) = 0
listed_of (Taken k) = k

abbrev pub came_as : Done → Came Housed
came_as d =
    record { refusal = refusal_of d.answer; listed = listed_of d.answer; seat = housed d.session d.elements d.nodes; out = d.out }

unfoldable pub event_at : Housed → List ℕ → List ℕ → Came Housed
event_at l bytes out = came_as (event l.session bytes l.elements l.nodes out)

abbrev pub ran : Ran → List ℕ → List ℕ → List ℕ → Fed Housed
ran r E N out = record { seat = housed r.session E N; taken = r.taken; listed = r.listed; refusal = fault_of r.refusal; out = out }

unfoldable pub run_within : Session → List ℕ → List ℕ → List ℕ → List ℕ → Fed Housed
run_within s es E N out =
    all_across (λ (t : Seat). housed (with_numbers s t.numbers) t.elements t.nodes)
    (fed (step_at (kept_in s.kept)) (length es / 8) (seat (session_numbers s) E N) es out)

abbrev pub RunGives : Session → List ℕ → List ℕ → List ℕ → List ℕ → Ran → List ℕ → List ℕ → List ℕ → Type 0
RunGives s es E N out r E' N' out' = ran r E' N' out' ≡ fed event_at (length es / 8) (housed s E N) es out
