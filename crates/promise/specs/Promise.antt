-- What begin and finish give, and what is read of a session that calls reach, in the words of the meaning: links of the proof of Theorem.
--
--   Of b p l                   l is a session and its room after the query bytes b were admitted and some calls came to the past p
--   begin_of                   the session that begin gives beside an admitted query is one after no calls, with any room
--   finish_given               finish gives the meaning's answer
--   waiting_held, ended_is, opened_is, handed_is, held_is      what a session's waiting nodes and counts are
--   begin_answer, ruled        begin's answer is the definition's; what an admitted query gives the theorems
--
-- Assumes that the bytes of a query are bytes. NOT promised: anything but safety of a session value that no calls reach, or of room in which the records in
-- use are others than the last call left. NOT here: what an event gives (Promise.Event).
pub mod Event
use Rattle.std.specs.Prelude.{ℕ, ◌≡◌, Bool, not, List, [], Result, Ok, Err, length, take}
use Rattle.std.proofs.Common.{arith, sym, ap, ◌∙◌, subst}
use Rattle.std.proofs.Math.Path.{refl, ap₂}
use Rattle.std.proofs.Math.Bool.{true, false}
use Rattle.std.proofs.Math.Option.{none}
use Rattle.choice.specs.When.{when, when_known}
use Rattle.choice.specs.Count.{bool_byte_read}
use Rattle.meaning.specs.Limits.{elements_needed, nodes_needed}
use Rattle.meaning.specs.Refusals.{already_stopped, unfinished}
use Rattle.meaning.specs.Document.{Doc, count, finished}
use Rattle.meaning.specs.Standing.{listed, held}
use Rattle.meaning.specs.Stream.{run, document, always, Stream}
use Rattle.meaning.specs.Answer as meaning
use Rattle.meaning.specs.Answer.{Call, Past, going, too_small, finish_refusals, refusals, first_or, first, yield, answer_if, answer, after_all}
use Rattle.meaning.proofs.Answer.Bounds.{Bounded, accepted_within}
use Rattle.limits.specs.declared.Refusal.{Refusal}
use Rattle.limits.specs.declared.Refusal.TheVariants.{Stopped, Unfinished}
use Rattle.query.specs.Answer as checked
use Rattle.query.specs.Answer.{answer_to}
use Rattle.query.specs.Decode.{decode, Bytes, Meant}
use Rattle.query.proofs.Decode.Laws.{meant}
use Rattle.plan.specs.Plan.{plan}
use Rattle.plan.specs.Planned.{plan_of}
use Rattle.plan_bytes.specs.Kept.{kept_in}
use Rattle.plan_bytes.specs.Kept.Planned.{kept_admitted}
use Rattle.element.specs.Element.{Elements, elements_in}
use Rattle.element.specs.Element.Laws.{frames_length}
use Rattle.node.specs.Node.{Queue, queue_in}
use Rattle.node.specs.Node.Laws.{nodes_length}
use Rattle.nodes.specs.Nodes.{numbers}
use Rattle.right.specs.Right.{stands_begun, ended_read, opened_read, handed_read, held_read, waiting_read}
use Rattle.right.specs.Rooms.{StandsIn}
use Rattle.session.specs.declared.Session.{Session}
use Rattle.session.specs.declared.Begun as given
use Rattle.session.specs.declared.Counts.{Counts}
use Rattle.session.specs.Begin.{fresh, said, Begun, start_answer, session_for, begun, BeginGives}
use Rattle.session.specs.Event.{session_numbers, finish, FinishGives}
use Rattle.session.specs.Run.{Housed, housed}
use Rattle.session.specs.Told.{ended}

pub record Of (b : List ℕ) (p : Past) (l : Housed) : Type 0 where
  pub bytes : Bytes b
  pub admitted : answer_to b ≡ checked.admitted
  pub stream : Stream p.events
  pub bounds : Bounded (decode b) p.events
  pub kept : kept_in l.session.kept ≡ plan (decode b)
  pub stands : StandsIn (decode b) (document p.events) (session_numbers l.session) l.elements l.nodes
  pub stop : l.session.stopped ≡ p.stopped

-- what the check admits is what the promises ask
pub ruled : {b : List ℕ} {p : Past} {l : Housed} → Of b p l → Meant b
ruled {b} o = meant b o.bytes o.admitted

-- what is read of a session that calls reach

module _ {b : List ℕ} {p : Past} {l : Housed} (o : Of b p l) where
  abbrev d : Doc
  d = document p.events

  abbrev E₁ : Elements
  E₁ = elements_in (take elements_needed l.elements)

  abbrev N₁ : Queue
  N₁ = queue_in (take nodes_needed l.nodes)

  pub ended_is : l.session.ended ≡ finished d
  ended_is = sym (bool_byte_read l.session.ended) ∙ ended_read (decode b) d (session_numbers l.session) E₁ N₁ o.stands

  pub opened_is : l.session.opened ≡ count d
  opened_is = opened_read (decode b) d (session_numbers l.session) E₁ N₁ o.stands

  pub handed_is : l.session.handed ≡ length (listed (decode b) d)
  handed_is = handed_read (decode b) d (session_numbers l.session) E₁ N₁ o.stands

  pub held_is : l.session.held ≡ length (held (decode b) d)
  held_is = held_read (decode b) d (session_numbers l.session) E₁ N₁ o.stands

  pub waiting_held : numbers (take l.session.held (queue_in (take nodes_needed l.nodes)).list) ≡ held (decode b) d
  waiting_held = waiting_read (decode b) d (session_numbers l.session) E₁ N₁ o.stands

  -- finish
  abbrev counted : ℕ → ℕ → Counts
  counted k h = record { opened = k; handed = h }

  finish_line_lem : (b x : Bool) (k h : ℕ) →
      ended (when b (Err Stopped) (when x (Ok (counted k h)) (Err Unfinished)))
      ≡ answer_if (first_or b already_stopped (first_or (not x) unfinished none)) (meaning.ended k h)
  unfolding when ended answer_if first_or
  finish_line_lem true x k h = refl
  finish_line_lem false true k h = refl
  finish_line_lem false false k h = refl

  pub finish_given : (f : Result Counts Refusal) → FinishGives l.session f → ended f ≡ answer (decode b) p Call.finish
  unfolding finish answer refusals finish_refusals first yield
  finish_given f g =
      g
      ∙ ap₂ (λ (y x : Bool). ended (when y (Err Stopped)
      (when x (Ok (counted l.session.opened l.session.handed)) (Err Unfinished)))) o.stop ended_is
      ∙ ap₂ (λ (k h : ℕ). ended (when p.stopped (Err Stopped)
      (when (finished d) (Ok (counted k h)) (Err Unfinished)))) opened_is handed_is
      ∙ finish_line_lem p.stopped (finished d) (count d) (length (listed (decode b) d))

-- begin

pub begin_answer : (b E N : List ℕ) (r : given.Begun) → BeginGives b E N r → said r.answer ≡ start_answer b E N
unfolding begun
begin_answer b E N r g = ap (λ (x : Begun). x.answer) g

pub begin_session : (b E N : List ℕ) (r : given.Begun) → BeginGives b E N r → r.session ≡ session_for (start_answer b E N) b
unfolding begun
begin_session b E N r g = ap (λ (x : Begun). x.session) g

pub begin_admitted : (b E N : List ℕ) (r : given.Begun) → BeginGives b E N r → r.answer ≡ Ok tt → answer_to b ≡ checked.admitted
unfolding start_answer said
begin_admitted b E N r g told-so =
    when_known (λ (a : checked.Answer). a ≡ checked.admitted → answer_to b ≡ checked.admitted) (too_small (length E) (length N)) _ _
    (λ t e. let z : ◌≡◌ {A = ℕ} 0 1 = cc in absurd (omega arith)) (λ f e. e)
    (sym (begin_answer b E N r g) ∙ ap said told-so)

pub begin_of :
    (b E N : List ℕ) (r : given.Begun) → Bytes b → BeginGives b E N r → r.answer ≡ Ok tt → (A B : List ℕ) → Of b (going []) (housed r.session A B)
unfolding after_all always said document run session_for fresh
begin_of b E N r bytes g told-so A B =
    let ok : answer_to b ≡ checked.admitted = begin_admitted b E N r g told-so in
    let is : r.session ≡ fresh (plan_of b) =
    begin_session b E N r g ∙ ap (λ (a : checked.Answer). session_for a b) (sym (begin_answer b E N r g) ∙ ap said told-so) in
    record {
      bytes = bytes;
      admitted = ok;
      stream = tt;
      bounds = accepted_within (decode b) [];
      kept = ap (λ (s : Session). kept_in s.kept) is ∙ kept_admitted b bytes ok;
      stands =
          subst (λ (s : Session). StandsIn (decode b) (document []) (session_numbers s) A B) (sym is)
          (stands_begun (decode b) (elements_in (take elements_needed A)) (queue_in (take nodes_needed B))
          (record { elements = frames_length (take elements_needed A); nodes = nodes_length (take nodes_needed B) }));
      stop = ap (λ (s : Session). s.stopped) is;
    }
