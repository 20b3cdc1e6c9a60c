-- What an event gives on a session that calls reach, in the words of the meaning: a link of the proof of Theorem.
--
--   Given o bytes .. x d       d is what is owed where x is the first refusal that applies
--   event_owed                 an event gives what is owed
--   event_answered, event_of_lem, event_written      so its result has the meaning's answer, leads to a session after the past then, and writes the nodes'
--                              records
--   room_long                  room that is not too small is long enough
--
-- Assumes nothing of the room but that the records in use are those that the last call left.
use Prim.Native.Nat.{ℕ, ◌*◌, ◌≤◌, ◌<◌}
use Rattle.std.proofs.Common.{arith, ap₂, ◌∙◌, ne_eqb, ltb-false}
use Rattle.std.specs.Prelude.{◌≡◌, Bool, false, ◌||◌, T, ltb, take}
use Rattle.std.proofs.Math.Path.{refl, sym, ap, subst}
use Rattle.std.proofs.Math.Bool.{true, not}
use mathlib.Core.List.{List, ◌++◌}
use Rattle.std.proofs.Math.Option.{Option, none, some}
use mir.Val.{bool_byte}
use Rattle.std.proofs.Math.Dec.{eqb}
use Rattle.std.proofs.Math.ListN.{length, drop}
use Rattle.choice.specs.When.{when_true, when_false, when_known, never}
use Rattle.choice.specs.Count.{bool_byte_read}
use Rattle.meaning.specs.Limits.{elements_needed, nodes_needed, output_needed}
use Rattle.meaning.proofs.Limits.Laws.{node_limit_is}
use Rattle.meaning.specs.Refusals.{short_output, short_room, already_stopped, stops}
use Rattle.meaning.specs.Query.{Query, admits}
use Rattle.meaning.specs.Document.{Doc}
use Rattle.meaning.proofs.Demands.{counts_add_up}
use Rattle.meaning.specs.Stream.{Event, document, Stream}
use Rattle.meaning.specs.Record.{event_of}
use Rattle.meaning.specs.Answer as meaning
use Rattle.meaning.specs.Answer.{Lent, Call, Past, too_small, event_refusals, refusals, first_or, first, call_events, yield, answer_if, answer}
use Rattle.meaning.specs.Answer.{after_if, after, handed_by}
use Rattle.meaning.proofs.Answer.Laws.{act_document, after_stream}
use Rattle.meaning.proofs.Answer.Bounds.{Bounded, after_bounded, handed_within}
use Rattle.query.specs.Decode.{decode}
use Rattle.plan.specs.Plan.{Plan}
use Rattle.plan_bytes.specs.Kept.{kept_in}
use Rattle.records.specs.Read.{shown}
use Rattle.records.specs.Write.{buffer}
use Rattle.records.proofs.Write.Laws.{Nodes, nodes_in_records_of, buffer_none}
use Rattle.words.specs.Records.{laid}
use Rattle.element.specs.Element as element
use Rattle.element.specs.Element.{Elements, elements_in}
use Rattle.node.specs.Node as node
use Rattle.node.specs.Node.{Queue, queue_in}
use Rattle.numbers.specs.Numbers.{Numbers}
use Rattle.step.specs.Step.{After, step}
use Rattle.step.proofs.Steps.Left.{step_still}
use Rattle.stop.specs.Stop.{marked, guarded}
use Rattle.stop.specs.Stop.Laws.{marked_same, guarded_stopped, guarded_going}
use Rattle.right.specs.Used.{state_in, same_state}
use Rattle.right.specs.Right as right
use Rattle.right.specs.Right.{Stands, InLimits, newly, StepOwed, refuses, takes, stands_still, step_right}
use Rattle.right.specs.Small.{named_stream}
use Rattle.right.specs.Rooms.{stands_lent, stands_laid}
use Rattle.feed.specs.Fed.{Came}
use Rattle.feed.specs.Steps.{Seat, seat, step_at}
use Rattle.feed.specs.Steps.Laws.{at_refusal, at_taken}
use Rattle.offer.specs.Offer.{needed, beside}
use Rattle.session.specs.declared.Session.{Session}
use Rattle.session.specs.declared.Next.{Next}
use Rattle.session.specs.declared.Answer as answers
use Rattle.session.specs.declared.Answer.TheVariants.{Refused, Taken}
use Rattle.session.specs.Event.{Done, session_numbers, with_numbers, stopped_by, answer_by, settled, event, EventGives}
use Rattle.session.specs.Event.Laws.{event_refused, event_cases, event_is}
use Rattle.session.specs.Run.{Housed, housed}
use Rattle.session.specs.Told.{told}
use Rattle.promise.specs.Lending.{SameUsed, left_by}
use Rattle.promise.specs.Promise.{Of, ruled}

-- within the limits the lent records have room
within_limits : (q : Query) → T (admits q) → length q ≤ 32 → (es : List Event) → Bounded q es → InLimits q (document es)
within_limits q ok small es w =
    record {
      admitted = ok;
      steps = small;
      deep = w.deep;
      few = w.held_nodes;
      listing = omega (arith, counts_add_up q (document es), w.nodes);
    }

-- nodes that stand in the buffer are told
told_buffer : (k : ℕ) (ns out : List ℕ) → k ≡ length ns → Nodes ns → told (Taken k) (buffer ns out) ≡ meaning.taken ns
unfolding told buffer
told_buffer k ns out e h =
    ap (λ (n : ℕ). told (Taken n) (buffer ns out)) e ∙ ap meaning.taken (nodes_in_records_of ns (drop (4 * length ns) out) h)

-- enough is lent
pub room_long : (E N : List ℕ) → too_small (length E) (length N) ≡ false → (elements_needed ≤ length E) × (nodes_needed ≤ length N)
unfolding too_small
room_long E N e = by (ltb (length E) elements_needed) (ltb (length N) nodes_needed) refl refl e
  where
    by : (x y : Bool) → ltb (length E) elements_needed ≡ x → ltb (length N) nodes_needed ≡ y → (x || y) ≡ false →
        (elements_needed ≤ length E) × (nodes_needed ≤ length N)
    by false false p r f = (ltb-false (length E) elements_needed p, ltb-false (length N) nodes_needed r)
    by true y p r f = never (sym f)
    by false true p r f = never (sym f)

-- the numbers of a session that was given them stand for the same
stands_numbers :
    (s : Session) (n : Numbers) (q : Query) (d : Doc) (E : Elements) (N : Queue) → Stands q d n E N → Stands q d (session_numbers (with_numbers s n)) E N
unfolding state_in
stands_numbers s n q d E N st =
    record {
      state = same_state refl refl refl refl (bool_byte_read (not (eqb n.ended 0))) ∙ st.state;
      roomy = st.roomy;
      deep = st.deep;
      few = st.few;
    }

-- room with the records in use stands for the same, and so it does after a refusal
module _ {b : List ℕ} {p : Past} {l : Housed} (o : Of b p l) where
  of_lent :
      (E N : List ℕ) → elements_needed ≤ length E → nodes_needed ≤ length N → SameUsed l E N → Of b p (housed l.session E N)
  of_lent E N longE longN same =
      record {
        bytes = o.bytes;
        admitted = o.admitted;
        stream = o.stream;
        bounds = o.bounds;
        kept = o.kept;
        stands =
            stands_lent (decode b) (document p.events) (session_numbers l.session) l.elements l.nodes E N longE longN same.elements
            same.nodes o.stands;
        stop = o.stop;
      }

  of_stopped : (r : ℕ) → Of b (meaning.stopped_by r p) (housed (stopped_by r l.session) l.elements l.nodes)
  of_stopped r =
      record {
        bytes = o.bytes;
        admitted = o.admitted;
        stream = o.stream;
        bounds = o.bounds;
        kept = o.kept;
        stands =
            stands_still (decode b) (document p.events) (session_numbers l.session) _ _ (bool_byte (l.session.stopped || stops r)) o.stands;
        stop = ap (◌|| stops r) o.stop;
      }

module _ {b : List ℕ} {p : Past} {l : Housed} (o : Of b p l) (bytes E N out : List ℕ)
    (same : too_small (length E) (length N) ≡ false → SameUsed l E N) where
  abbrev q : Query
  q = decode b

  abbrev d : Doc
  d = document p.events

  abbrev s : Session
  s = l.session

  abbrev pub c : Call
  c = Call.event bytes (record { out = length out; elements = length E; nodes = length N })

  pub record Given (x : Option ℕ) (r : Done) : Type 0 where
    pub answered : told r.answer r.out ≡ answer_if x (yield q d c)
    pub next : Of b (after_if x p (call_events c)) (left_by l E N r.session r.elements r.nodes)
    pub written : r.out ≡ buffer (handed_by (answer_if x (yield q d c))) out

  -- a refused event leaves all as it was but for the stop
  refused_of : (r : ℕ) → Of b (meaning.stopped_by r p) (left_by l E N (stopped_by r s) E N)
  unfolding left_by
  refused_of r =
      when_known (Of b (meaning.stopped_by r p)) (too_small (length E) (length N)) _ _ (λ e. of_stopped o r)
      (λ e. of_stopped (of_lent o E N (room_long E N e).0 (room_long E N e).1 (same e)) r)

  refused_given : (r : ℕ) → (event s bytes E N out).answer ≡ Refused r → Given (some r) (event s bytes E N out)
  unfolding answer_if after_if handed_by told
  refused_given r e =
      subst (Given (some r)) (sym (event_refused s bytes E N out r e)) (record { answered = refl; next = refused_of r; written = sym (buffer_none out) })

  module _ (wide : ltb (length out) output_needed ≡ false) (enough : too_small (length E) (length N) ≡ false) where
    abbrev n : Numbers
    n = session_numbers s

    abbrev at : Seat
    at = seat n E N

    abbrev E₀ : List ℕ
    E₀ = take elements_needed E

    abbrev N₀ : List ℕ
    N₀ = take nodes_needed N

    abbrev P : Plan
    P = kept_in s.kept

    abbrev came : Came Seat
    came = step_at P (needed at) bytes out

    -- an event with the stop, on the records in the rooms
    abbrev judged : After
    judged = guarded P (shown (event_of bytes)) n (elements_in E₀) (queue_in N₀) out

    event_settled : event s bytes E N out ≡ settled s (beside at came)
    event_settled =
        event_cases s bytes E N out
        ∙ when_false (ltb (length out) output_needed) _ _ wide
        ∙ when_false (too_small (length E) (length N)) _ _ enough

    judged_refused : (r : ℕ) → 0 < r → judged.refusal ≡ r → (event s bytes E N out).answer ≡ Refused r
    unfolding settled answer_by
    judged_refused r h e =
        ap (λ (x : Done). x.answer) event_settled
        ∙ ap (λ (k : ℕ). answer_by k came.listed) (at_refusal P (needed at) bytes out ∙ e)
        ∙ when_false (eqb r 0) _ (Refused r) (ne_eqb r 0 (λ z. omega arith))

    abbrev done_taken : After → Done
    done_taken a =
        record {
          answer = Taken a.listed;
          session = with_numbers s a.numbers;
          elements = laid element.shape a.elements ++ drop elements_needed E;
          nodes = laid node.shape a.nodes ++ drop nodes_needed N;
          out = a.out;
        }

    judged_taken : (a : After) → judged ≡ a → a.refusal ≡ 0 → event s bytes E N out ≡ done_taken a
    unfolding settled answer_by
    judged_taken a e z =
        event_settled ∙ ap (λ (x : Came Seat). settled s (beside at x)) (at_taken P (needed at) bytes out a e z)
        ∙ ap (λ (x : answers.Answer). record {
          answer = x;
          session = with_numbers s a.numbers;
          elements = laid element.shape a.elements ++ drop elements_needed E;
          nodes = laid node.shape a.nodes ++ drop nodes_needed N;
          out = a.out;
        }) (when_true true (Taken a.listed) _ refl)

    taken_of :
        (a : After) → right.Taken q d (meaning.act_if (event_of bytes) d) out a → a.numbers.stopped ≡ n.stopped → first (refusals q p c) ≡ none →
        Of b (after_if none p (call_events c)) (left_by l E N (done_taken a).session (done_taken a).elements (done_taken a).nodes)
    unfolding left_by call_events after_if
    taken_of a t still f =
        let fs : List Event = p.events ++ meaning.events_of (event_of bytes) in
        let is : (after q p c).events ≡ fs =
        unfold after after_if call_events in ap (λ (x : Option ℕ). (after_if x p (meaning.events_of (event_of bytes))).events) f in
        let stream : Stream fs = subst Stream is (after_stream q p c o.stream) in
        let bounds : Bounded q fs = subst (Bounded q) is (after_bounded q p c o.bounds) in
        let doc : meaning.act_if (event_of bytes) d ≡ document fs = act_document p.events (event_of bytes) in
        subst (Of b (record { events = fs; stopped = p.stopped })) (sym (when_false (too_small (length E) (length N)) _ _ enough))
        (record {
          bytes = o.bytes;
          admitted = o.admitted;
          stream = stream;
          bounds = bounds;
          kept = o.kept;
          stands =
              stands_numbers s a.numbers q (document fs) _ _
              (stands_laid q (document fs) a.numbers a.elements a.nodes
              (subst (λ x. Stands q x a.numbers a.elements a.nodes) doc t.stands) (ruled o).most (named_stream fs stream) bounds.nodes
              bounds.deep (drop elements_needed E) (drop nodes_needed N));
          stop = ap (λ (k : ℕ). not (eqb k 0)) still ∙ bool_byte_read s.stopped ∙ o.stop;
        })

    handed_nodes : first (refusals q p c) ≡ none → Nodes (newly q d (meaning.act_if (event_of bytes) d))
    unfolding answer answer_if handed_by yield
    handed_nodes f =
        let e : handed_by (answer q p c) ≡ newly q d (meaning.act_if (event_of bytes) d) =
        ap (λ (x : Option ℕ). handed_by (answer_if x (yield q d c))) f in
        subst Nodes e (λ i. omega (arith, node_limit_is, handed_within q p c i, (after_bounded q p c o.bounds).nodes))

    taken_given :
        (a : After) → right.Taken q d (meaning.act_if (event_of bytes) d) out a → a.numbers.stopped ≡ n.stopped → first (refusals q p c) ≡ none →
        Given none (done_taken a)
    unfolding answer_if handed_by yield
    taken_given a t still f =
        let ns : List ℕ = newly q d (meaning.act_if (event_of bytes) d) in
        record {
          answered = ap (told (Taken a.listed)) t.written ∙ told_buffer a.listed ns out t.listed (handed_nodes f);
          next = taken_of a t still f;
          written = t.written;
        }

    -- by what is owed of a step, where the session is not stopped
    step_given :
        (x : Option ℕ) (a : After) → judged ≡ marked a → a.numbers.stopped ≡ n.stopped → first (refusals q p c) ≡ x →
        StepOwed q d (event_of bytes) n (elements_in E₀) (queue_in N₀) out x a → Given x (event s bytes E N out)
    step_given (some r) a is still f (refuses h e) = refused_given r (judged_refused r h (ap (λ (y : After). y.refusal) (is ∙ ap marked e)))
    step_given none a is still f (takes t) =
        let idle : stops a.refusal ≡ false = unfold stops in ap stops t.refusal in
        subst (Given none) (sym (judged_taken a (is ∙ marked_same a idle) t.refusal)) (taken_given a t still f)

    going_given : p.stopped ≡ false → Given (first (refusals q p c)) (event s bytes E N out)
    unfolding refusals
    going_given g =
        let at_none : eqb n.stopped 0 ≡ true = ap (λ (x : Bool). eqb (bool_byte x) 0) (o.stop ∙ g) in
        let lent : Lent = record { out = length out; elements = length E; nodes = length N } in
        step_given (first (refusals q p c)) (step P (shown (event_of bytes)) n (elements_in E₀) (queue_in N₀) out)
        (guarded_going P (shown (event_of bytes)) n _ _ out at_none) (step_still P n (elements_in E₀) (queue_in N₀) out (shown (event_of bytes))) refl
        (subst
        (λ (x : Bool). StepOwed q d (event_of bytes) n (elements_in E₀) (queue_in N₀) out (first (event_refusals q x d (event_of bytes) lent))
        (step P (shown (event_of bytes)) n (elements_in E₀) (queue_in N₀) out)) (sym g)
        (step_right q d (within_limits q (ruled o).admitted (ruled o).most p.events o.bounds) n (elements_in E₀) (queue_in N₀)
        (of_lent o E N (room_long E N enough).0 (room_long E N enough).1 (same enough)).stands out lent wide enough P o.kept (event_of bytes)))

    -- "every later event and every later finish gets 11"
    stopped_given : p.stopped ≡ true → Given (some already_stopped) (event s bytes E N out)
    stopped_given g =
        let some-stop : eqb n.stopped 0 ≡ false = ap (λ (x : Bool). eqb (bool_byte x) 0) (o.stop ∙ g) in
        refused_given already_stopped
        (judged_refused already_stopped (omega arith)
        (ap (λ (a : After). a.refusal) (guarded_stopped P (shown (event_of bytes)) n (elements_in E₀) (queue_in N₀) out some-stop)))

  -- by the first three lines of the table
  pub event_owed : Given (first (refusals q p c)) (event s bytes E N out)
  unfolding refusals event_refusals first first_or
  event_owed = by (ltb (length out) output_needed) (too_small (length E) (length N)) p.stopped refl refl refl
    where
      rest : Option ℕ
      rest = first (drop 3 (event_refusals q p.stopped d (event_of bytes) (record { out = length out; elements = length E; nodes = length N })))

      line : (x y z : Bool) → ltb (length out) output_needed ≡ x → too_small (length E) (length N) ≡ y → p.stopped ≡ z →
          first_or x short_output (first_or y short_room (first_or z already_stopped rest)) ≡ first (refusals q p c)
      line x y z e f g =
          sym (ap₂ (λ (a b : Bool). first_or a short_output (first_or b short_room (first_or p.stopped already_stopped rest))) e f
          ∙ ap (λ (a : Bool). first_or x short_output (first_or y short_room (first_or a already_stopped rest))) g)

      by : (x y z : Bool) → ltb (length out) output_needed ≡ x → too_small (length E) (length N) ≡ y → p.stopped ≡ z →
          Given (first (refusals q p c)) (event s bytes E N out)
      by true y z e f g =
          subst (λ o. Given o (event s bytes E N out)) (line true y z e f g)
          (refused_given short_output (ap (λ (r : Done). r.answer) (event_cases s bytes E N out ∙ when_true _ _ _ e)))
      by false true z e f g =
          subst (λ o. Given o (event s bytes E N out)) (line false true z e f g)
          (refused_given short_room (ap (λ (r : Done). r.answer) (event_cases s bytes E N out ∙ when_false _ _ _ e ∙ when_true _ _ _ f)))
      by false false true e f g = subst (λ o. Given o (event s bytes E N out)) (line false false true e f g) (stopped_given e f g)
      by false false false e f g = going_given e f g

  module _ (r : Next) (E' N' out' : List ℕ) (g : EventGives s bytes E N out r E' N' out') where
    event_given : Given (first (refusals q p c)) (record { answer = r.answer; session = r.session; elements = E'; nodes = N'; out = out' })
    event_given = subst (Given (first (refusals q p c))) (sym (event_is s bytes E N out r E' N' out' g)) event_owed

    pub event_answered : told r.answer out' ≡ answer q p c
    unfolding answer
    event_answered = event_given.answered

    pub event_of_lem : Of b (after q p c) (left_by l E N r.session E' N')
    unfolding after
    event_of_lem = event_given.next

    pub event_written : out' ≡ buffer (handed_by (answer q p c)) out
    unfolding answer
    event_written = event_given.written
