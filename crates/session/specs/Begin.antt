-- How a session begins.
--
--   fresh plan        the session for a plan, at the start of its stream
--   said a            the answer that a result of the check before begin stands for, in document 01's numbers: 15 where the room is too small, else the
--                     query's
--   Begun             what begin answers, in document 01's numbers, and the session beside it
--   start_answer q E N    the answer to the bytes q with the room E and N lent
--   session_for a q    the session beside the answer a to the query q; the blank one beside every refusal
--   begun q E N       the answer and the session
--   BeginGives q E N r     THE PROMISE of `begin`: r's answer, in document 01's numbers, and its session are those
--
-- Assumes nothing. NOT here: the answer to a query (crate query, Answer), the plan (crate plan, Planned).
pub mod Laws
use Rattle.std.specs.Prelude.{ℕ, ◌≡◌, false, List, [], Result, Ok, Err, length}
use Rattle.choice.specs.When.{when}
use Rattle.meaning.specs.Refusals.{short_room}
use Rattle.meaning.specs.Answer.{too_small}
use Rattle.plan.specs.declared.Plan.{Plan}
use Rattle.plan.specs.Planned.{plan_of}
use Rattle.plan_bytes.specs.Kept.{packed}
use Rattle.words.specs.Words.{bytes_of}
use Rattle.query.specs.Answer as query
use Rattle.query.specs.Answer.{Answer, admitted, refused, refused_at, answer_to}
use Rattle.session.specs.declared.Begun as given
use Rattle.session.specs.declared.Session.{Session}
use Rattle.session.specs.declared.StartFault.{StartFault}
use Rattle.session.specs.declared.StartFault.TheVariants.{ShortRoom, Query}

unfoldable pub fresh : Plan → Session
fresh plan = record { kept = bytes_of (packed plan); depth = 0; held = 0; opened = 0; handed = 0; ended = false; stopped = false }

unfoldable pub said : Result (Unit {0}) StartFault → Answer
said (Ok t) = admitted
said (Err ShortRoom) = refused short_room
said (Err (Query f)) = query.said (Err f)

pub record Begun : Type 0 where
  pub answer : Answer
  pub session : Session

-- "15 comes directly after 1 and before all others: at the start before 9 and 10"
unfoldable pub start_answer : List ℕ → List ℕ → List ℕ → Answer
start_answer q E N = when (too_small (length E) (length N)) (refused short_room) (answer_to q)

-- "beside a refused query's number stands one fixed blank session": that of no steps
unfoldable pub session_for : Answer → List ℕ → Session
session_for admitted q = fresh (plan_of q)
session_for (refused n) q = fresh (plan_of [])
session_for (refused_at n k r) q = fresh (plan_of [])

unfoldable pub begun : List ℕ → List ℕ → List ℕ → Begun
begun q E N = record { answer = start_answer q E N; session = session_for (start_answer q E N) q }

abbrev pub BeginGives : List ℕ → List ℕ → List ℕ → given.Begun → Type 0
BeginGives q E N r = record { answer = said r.answer; session = r.session } ≡ begun q E N
