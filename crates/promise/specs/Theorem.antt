-- THE PROMISE OF THE LIBRARY, on one page: what its own replies are, for every byte string as query and every sequence of uses from begin on.
--
--   Use, Reply              an event with any bytes, any room and any buffer, or finish; the code's own reply, and all that was lent, on return
--   Played l us rs k        the uses us of the session and room l got the replies rs and led to k: of each reply nothing is known but its entry point's
--                           promise, and of lent room that is not too small only that the records in use are those that the use before left (SameUsed, in
--                          Lending): the rest of it is anything. Room that is too small is not touched, so the records stay where they were (left_by)
--   Reached b us rs l       begin admitted the bytes b, and its session was used so: l is a session and room that calls reach
--   call_of, answer_of        a use as a call of the meaning; a reply as document 01's answer (`told`, `ended`)
--   written_in r             the bytes of the list records at the start of the buffer that a reply left;  records_by a out: the same, by the answer a
--   stream_of b us           the accepted events;  nodes_of rs: the nodes that the list records in the buffers name;  waiting l: the nodes waiting in l
--   Begins b E N r          what is promised of begin's result r for the bytes b and the room E and N
--   Promised b us rs l      what is promised of the replies rs, of the session and of its room, after each of the uses (`first_part`)
--   Ceased b us rs l us' rs' k      what is promised of further uses of a stopped session: nothing changes any more
--   Offered, Answered       how the records of a block are offered and answered
--   Block b us rs l .. r .. what is promised of a block: its result r and all that was lent are what single offers come to
--   Same                    what is promised of every event on every session and room, reached or not, scribbled on or not
--   Library                 the theorem; it is proved in Theorem.Proof, by Theorem.Short, Theorem.Replies, Theorem.Blocks and Theorem.Stop
--
-- The other words are document 01's: ListedBy, HeldBy, SelectedByNone, Selected (crate meaning, Explicit: with explicit nodes and all continuations), answers
-- and after_all (meaning, Answer), Owed (crate query, Answer), Rising (each number once, in document order). BeginGives, EventGives, FinishGives and RunGives
-- are what `begin`, `event`, `finish` and `run` ensure; Housed (crate session, Run) is a session with the room for it. That refusal 7 is given where more nodes
-- would be held than may be is said by `answers`, which counts them by the readings (meaning, Standing); that those are the nodes HeldBy is shown in meaning,
-- Explicit.Demands. The records are those of crate element and crate node; records in use are the first ones, as many as elements are open and nodes held.
-- Assumes that a query's bytes are bytes. NOT promised: list, counts and refusals but 1, 15 and 11 of a session that no calls reach, or of one whose records in
-- use were changed between calls.
pub mod Short
pub mod Replies
pub mod Blocks
pub mod Stop
pub mod Proof
use Rattle.std.specs.Prelude.{ℕ, suc, ◌+◌, ◌*◌, ◌≤◌, ◌<◌, ◌↔◌, ◌⊎◌, ◌≡◌, true, false, None, Result, Ok, T, length, take, drop}
use mathlib.Core.List.{List, [], ◌∷◌, ◌++◌, map, flat_map, Memᴰ}
use Rattle.meaning.specs.Limits.{output_needed, elements_needed, nodes_needed}
use Rattle.meaning.specs.Refusals.{short_output, short_room, already_stopped}
use Rattle.meaning.specs.Document.{count, finished}
use Rattle.meaning.specs.Selection.{sure-reading}
use Rattle.meaning.specs.Explicit.{Selected}
use Rattle.meaning.specs.Explicit.Demands.{SelectedByNone, ListedBy, HeldBy}
use Rattle.meaning.specs.Continuation.{Opened}
use Rattle.meaning.proofs.Standing.Laws.{Rising}
use Rattle.meaning.specs.Stream.{Event, document, Stream}
use Rattle.meaning.specs.Answer.{Call, Answer, refused, taken, going, too_small, answers, after_all, handed_out}
use Rattle.limits.specs.declared.Refusal.{Refusal}
use Rattle.limits.specs.Number.{fault_of}
use Rattle.query.specs.Answer as query
use Rattle.query.specs.Answer.{Owed}
use Rattle.query.specs.Decode.{decode, Bytes}
use Rattle.records.specs.Write.{records_of}
use Rattle.node.specs.Node.{queue_in}
use Rattle.nodes.specs.Nodes.{numbers}
use Rattle.session.specs.declared.Session.{Session}
use Rattle.session.specs.declared.Begun.{Begun}
use Rattle.session.specs.declared.Next.{Next}
use Rattle.session.specs.declared.Counts.{Counts}
use Rattle.session.specs.declared.Answer as event-answer
use Rattle.session.specs.declared.Answer.TheVariants.{Refused, Taken}
use Rattle.session.specs.declared.Ran.{Ran}
use Rattle.session.specs.Begin.{said, BeginGives}
use Rattle.session.specs.Event.{stopped_by, EventGives, FinishGives}
use Rattle.session.specs.Run.{Housed, housed, RunGives}
use Rattle.session.specs.Told.{told, ended}
use Rattle.promise.specs.Lending.{SameUsed, left_by}

pub data Use : Type 0 where
  offer : (bytes E N out : List ℕ) → Use
  ask : Use

pub data Reply : Type 0 where
  stepped : (r : Next) (E N out : List ℕ) → Reply
  finish : (f : Result Counts Refusal) → Reply

pub data Played : Housed → List Use → List Reply → Housed → Type 0 where
  unused : {l : Housed} → Played l [] [] l
  by_event :
      {l k : Housed} {bytes E N out E' N' out' : List ℕ} {r : Next} {us : List Use} {rs : List Reply} →
      (too_small (length E) (length N) ≡ false → SameUsed l E N) → EventGives l.session bytes E N out r E' N' out' →
      Played (left_by l E N r.session E' N') us rs k → Played l (offer bytes E N out ∷ us) (stepped r E' N' out' ∷ rs) k
  by_finish :
      {l k : Housed} {f : Result Counts Refusal} {us : List Use} {rs : List Reply} → FinishGives l.session f → Played l us rs k →
      Played l (ask ∷ us) (finish f ∷ rs) k

-- "Nothing is asked of the room's content at begin"
pub record Reached (b : List ℕ) (us : List Use) (rs : List Reply) (l : Housed) : Type 0 where
  pub bytes : Bytes b
  pub E : List ℕ
  pub N : List ℕ
  pub begun : Begun
  pub begins : BeginGives b E N begun
  pub admitted : begun.answer ≡ Ok tt
  pub played : Played (housed begun.session E N) us rs l

unfoldable pub call_of : Use → Call
call_of (offer bytes E N out) = Call.event bytes (record { out = length out; elements = length E; nodes = length N })
call_of ask = Call.finish

unfoldable pub answer_of : Reply → Answer
answer_of (stepped r E N out) = told r.answer out
answer_of (finish f) = ended f

unfoldable pub records_by : event-answer.Answer → List ℕ → List ℕ
records_by (Refused n) out = []
records_by (Taken k) out = take (4 * k) out

unfoldable pub written_in : Reply → List ℕ
written_in (stepped r E N out) = records_by r.answer out
written_in (finish f) = []

abbrev pub stream_of : List ℕ → List Use → List Event
stream_of b us = (after_all (decode b) (going []) (map call_of us)).events

abbrev pub nodes_of : List Reply → List ℕ
nodes_of rs = handed_out (map answer_of rs)

abbrev pub waiting : Housed → List ℕ
waiting l = numbers (take l.session.held (queue_in (take nodes_needed l.nodes)).list)

-- "at the start before 9 and 10"; "beside a refused query's number stands one fixed blank session"; beside an admitted one stands the session of no uses, of
-- which Promised speaks
pub record Begins (b E N : List ℕ) (r : Begun) : Type 0 where
  pub small : too_small (length E) (length N) ≡ true → said r.answer ≡ query.refused short_room
  pub answered : too_small (length E) (length N) ≡ false → Owed b (said r.answer)
  pub blank :
      (r.answer ≡ Ok tt → ⊥) → (b' E' N' : List ℕ) (r' : Begun) → BeginGives b' E' N' r' → (r'.answer ≡ Ok tt → ⊥) →
      r.session ≡ r'.session

pub record Promised (b : List ℕ) (us : List Use) (rs : List Reply) (l : Housed) : Type 0 where
  -- the answers are the meaning's, one by one; the accepted events are a stream
  pub answered : map answer_of rs ≡ answers (decode b) (going []) (map call_of us)
  pub stream : Stream (stream_of b us)
  -- the list records found in the buffers, put together, are those of the nodes read from them, and these are the list: in document order, each node once,
  -- certain, nothing undecided before
  pub recorded : flat_map written_in rs ≡ records_of (nodes_of rs)
  pub order : Rising 1 (nodes_of rs)
  pub listed : (n : ℕ) → Memᴰ n (nodes_of rs) ↔ ListedBy (decode b) (stream_of b us) n
  -- the nodes waiting are the held ones
  pub held_order : Rising 1 (waiting l)
  pub held : (n : ℕ) → Memᴰ n (waiting l) ↔ HeldBy (decode b) (stream_of b us) n
  -- opened = handed out + ruled out + held, by the session's own counts
  pub opened : l.session.opened ≡ count (document (stream_of b us))
  pub handed : l.session.handed ≡ length (nodes_of rs)
  pub kept : l.session.held ≡ length (waiting l)
  pub ruled : List ℕ
  pub ruled_order : Rising 1 ruled
  pub ruled_out : (n : ℕ) → Memᴰ n ruled ↔ (Opened (document (stream_of b us)) n × SelectedByNone (decode b) (stream_of b us) n)
  pub sum : l.session.opened ≡ l.session.handed + length ruled + l.session.held
  -- "Once a session has given one of the refusals 2 to 7 it is stopped", and by nothing else
  pub stopped : T l.session.stopped ↔ ((n : ℕ) × Memᴰ (refused n) (map answer_of rs) × (2 ≤ n) × (n ≤ 7))
  -- at the end of the document the list is exactly what the sentence with explicit nodes selects
  pub whole :
      T (finished (document (stream_of b us))) → (n : ℕ) → Memᴰ n (nodes_of rs) ↔ Selected (decode b) sure-reading (document (stream_of b us)) n
  -- a taken event leaves all of the buffer behind its list records
  pub rest_same :
      (bytes E N out E' N' out' : List ℕ) (r : Next) (k : ℕ) → (too_small (length E) (length N) ≡ false → SameUsed l E N) →
      EventGives l.session bytes E N out r E' N' out' → r.answer ≡ Taken k → drop (4 * k) out' ≡ drop (4 * k) out

-- a stopped session that calls reach, used further by us', with the replies rs', which leads to k: it stays stopped, every answer is 1, 15 or 11, and the list,
-- the waiting nodes and the counts are those of the moment of the stop
pub record Ceased (b : List ℕ) (us : List Use) (rs : List Reply) (l : Housed) (us' : List Use) (rs' : List Reply) (k : Housed) : Type 0 where
  pub session : k.session ≡ l.session
  pub answered : (a : Answer) → Memᴰ a (map answer_of rs') → (a ≡ refused 1) ⊎ ((a ≡ refused 15) ⊎ (a ≡ refused 11))
  pub stream : stream_of b (us ++ us') ≡ stream_of b us
  pub list : nodes_of (rs ++ rs') ≡ nodes_of rs
  pub waits : waiting k ≡ waiting l

-- an event on any session and any room: a refused one gives back every byte of the room and of the buffer, and the session as it was but for the stop, which
-- 2 to 7 alone are; the bytes of the room past the needed ones are never touched
pub record Same (s : Session) (bytes E N out : List ℕ) (r : Next) (E' N' out' : List ℕ) : Type 0 where
  pub refused_same : (n : ℕ) → r.answer ≡ Refused n → (r.session ≡ stopped_by n s) × ((E' ≡ E) × ((N' ≡ N) × (out' ≡ out)))
  pub others_same : (n : ℕ) → r.answer ≡ Refused n → ((2 ≤ n) × (n ≤ 7) → ⊥) → r.session ≡ s
  pub past_same : (drop elements_needed E' ≡ drop elements_needed E) × (drop nodes_needed N' ≡ drop nodes_needed N)
  -- 1 exactly when the buffer is too short, 15 exactly when a room is too small and 1 does not apply, 11 exactly when the session is stopped and neither does
  pub short_exactly : (r.answer ≡ Refused short_output) ↔ (length out < output_needed)
  pub small_exactly : (r.answer ≡ Refused short_room) ↔ ((output_needed ≤ length out) × (too_small (length E) (length N) ≡ true))
  pub stopped_exactly :
      (r.answer ≡ Refused already_stopped) ↔ ((output_needed ≤ length out) × (too_small (length E) (length N) ≡ false) × T s.stopped)

-- the whole records at the start of es are offered one after the other, the first with the room E and N and the buffer out, each next with the room that the
-- one before left and the part of the buffer behind the list records so far, and none with less of it than an event can need; A and B are what is left
pub data Offered : (es E N out : List ℕ) → List Use → List Reply → (A B : List ℕ) → Type 0 where
  no_more : {es E N out : List ℕ} → Offered es E N out [] [] E N
  one_more :
      {es E N out E' N' out' A B : List ℕ} {r : Next} {us : List Use} {rs : List Reply} → 8 ≤ length es → output_needed ≤ length out →
      Offered (drop 8 es) E' N' (drop (length (records_by r.answer out')) out') us rs A B →
      Offered es E N out (offer (take 8 es) E N out ∷ us) (stepped r E' N' out' ∷ rs) A B

-- so many are taken, and then one is refused with this number; 0 for none
pub data Answered : (taken refusal : ℕ) → List Answer → Type 0 where
  all_taken : Answered 0 0 []
  then_refused : {n : ℕ} → 1 ≤ n → Answered 0 n (refused n ∷ [])
  one_taken : {k n : ℕ} {ns : List ℕ} {as' : List Answer} → Answered k n as' → Answered (suc k) n (taken ns ∷ as')

-- a block on a session that calls reach, lent E and N and given back A and B: its session is one that single offers lead to, up to the first refusal, the last
-- whole record, or less of the buffer than an event can need; and the room that it gives back is one to go on with
pub record Block (b : List ℕ) (us : List Use) (rs : List Reply) (l : Housed) (es E N out : List ℕ) (r : Ran) (A B out' : List ℕ) : Type 0 where
  pub offers : List Use
  pub replies : List Reply
  pub left : Housed
  pub played : Played l offers replies left
  pub same_session : left.session ≡ r.session
  pub reached : Reached b (us ++ offers) (rs ++ replies) left
  pub goes_on : too_small (length E) (length N) ≡ false → SameUsed left A B
  pub offered : Offered es E N out offers replies A B
  pub answered : Answered r.taken (fault_of r.refusal) (map answer_of replies)
  pub listed : r.listed ≡ length (nodes_of replies)
  pub written : out' ≡ records_of (nodes_of replies) ++ drop (4 * r.listed) out
  pub ends : r.refusal ≡ None → (length es < 8 * r.taken + 8) ⊎ (length out < 4 * r.listed + output_needed)

pub record Library : Type 0 where
  pub begins : (b E N : List ℕ) (r : Begun) → BeginGives b E N r → Begins b E N r
  pub keeps : {b : List ℕ} {us : List Use} {rs : List Reply} {l : Housed} → Reached b us rs l → Promised b us rs l
  pub ceases :
      {b : List ℕ} {us us' : List Use} {rs rs' : List Reply} {l k : Housed} → Reached b us rs l → T l.session.stopped → Played l us' rs' k →
      Ceased b us rs l us' rs' k
  pub blocks :
      {b : List ℕ} {us : List Use} {rs : List Reply} {l : Housed} → Reached b us rs l → (es E N out : List ℕ) →
      (too_small (length E) (length N) ≡ false → SameUsed l E N) → (r : Ran) (A B out' : List ℕ) → RunGives l.session es E N out r A B out' →
      Block b us rs l es E N out r A B out'
  pub same :
      (s : Session) (bytes E N out : List ℕ) (r : Next) (E' N' out' : List ℕ) → EventGives s bytes E N out r E' N' out' →
      Same s bytes E N out r E' N' out'
  -- so it is after each of the uses: a first part of them is a sequence of uses too
  pub first_part :
      {b : List ℕ} (us us' : List Use) {rs : List Reply} {l : Housed} → Reached b (us ++ us') rs l →
      (rs₁ : List Reply) × (rs₂ : List Reply) × (k : Housed) × Reached b us rs₁ k × Played k us' rs₂ l × (rs ≡ rs₁ ++ rs₂)
  -- every call has a result, whatever it is given, so that any sequence of uses goes on; and it has one list of replies
  pub some_begin : (b E N : List ℕ) → (r : Begun) × BeginGives b E N r
  pub some_event :
      (s : Session) (bytes E N out : List ℕ) → (r : Next) × (E' : List ℕ) × (N' : List ℕ) × (out' : List ℕ) × EventGives s bytes E N out r E' N' out'
  pub some_finish : (s : Session) → (f : Result Counts Refusal) × FinishGives s f
  pub some_run :
      (s : Session) (es E N out : List ℕ) → (r : Ran) × (A : List ℕ) × (B : List ℕ) × (out' : List ℕ) × RunGives s es E N out r A B out'
  pub some_use :
      {b : List ℕ} {us : List Use} {rs : List Reply} {l : Housed} → Reached b us rs l → (bytes E N out : List ℕ) →
      (too_small (length E) (length N) ≡ false → SameUsed l E N) →
      (r : Reply) × (k : Housed) × Reached b (us ++ (offer bytes E N out ∷ [])) (rs ++ (r ∷ [])) k
  pub one :
      (b E N : List ℕ) (r r' : Begun) {us : List Use} {rs rs' : List Reply} {l l' : Housed} → BeginGives b E N r → BeginGives b E N r' →
      Played (housed r.session E N) us rs l → Played (housed r'.session E N) us rs' l' → (r ≡ r') × (rs ≡ rs') × (l ≡ l')
