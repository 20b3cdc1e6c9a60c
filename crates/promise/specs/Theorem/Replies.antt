-- The proof of what is promised of begin, event and finish.
--
--   Kept b p us rs l        what a play from a session after the past p keeps: l is one after the past by then, the answers are the meaning's, and the
--                           records found are those of the nodes handed out
--   play_kept               it does
--   reached_kept            so does every play from begin on
--   reached_of, nodes_listed     so l is one after the past of the uses, and the nodes are those listed
--   promised                THE REPLIES, THE SESSION AND ITS ROOM are as promised
--   begins                  so is begin's result
--   same                    and what a refused event leaves, on any session and room;  event_long: the room is as long as it was
--   begin_some, event_some, finish_some     every call has a result;  uses_one: every sequence of uses has only one list of replies
--
-- Assumes nothing.
use Rattle.std.specs.Prelude.{ℕ, zero, suc, ◌*◌, ◌≤◌, ◌<◌, ◌↔◌, ◌≡◌, Bool, true, false, Result, Ok, Err, T, take, drop}
use Rattle.std.proofs.Common.{arith, sym, ap₂, ◌∙◌, subst₂, length-append, length-drop, drop_at}
use Rattle.std.proofs.Math.Path.{refl, ap, subst}
use mathlib.Core.List.{List, [], ◌∷◌, ◌++◌, map, flat_map, Memᴰ}
use Rattle.std.proofs.Math.ListN.{length}
use Rattle.std.proofs.Math.Seq.{take_at, length-take-le}
use Rattle.choice.specs.When.{when_true, when_false, when_known, when_either}
use Rattle.choice.specs.Count.{bool_byte_le}
use Rattle.meaning.specs.Limits.{elements_needed, nodes_needed, output_needed}
use Rattle.meaning.specs.Logic.{is_false}
use Rattle.meaning.specs.Refusals.{short_output, short_room, already_stopped, stops}
use Rattle.meaning.proofs.Refusals.Laws.{stops_exactly}
use Rattle.meaning.specs.Query.{Query}
use Rattle.meaning.specs.Selection.{sure-reading}
use Rattle.meaning.specs.Explicit.{Selected}
use Rattle.meaning.specs.Explicit.Demands.{ListedBy, HeldBy}
use Rattle.meaning.proofs.Explicit.Demands.{listed_exactly, held_exactly, ruled_out_exactly}
use Rattle.meaning.specs.Standing.{listed, ruled_out_nodes}
use Rattle.meaning.proofs.Standing.Laws.{Rising}
use Rattle.meaning.proofs.Demands.{list_order, held_order, ruled_out_order, list_explicit, counts_add_up}
use Rattle.meaning.specs.Stream.{Event, document}
use Rattle.meaning.specs.Answer as meaning
use Rattle.meaning.specs.Answer.{Call, Past, going, too_small, answer, after, answers, after_all, handed_by, handed_out}
use Rattle.meaning.proofs.Answer.Laws.{finish_same, handed_listed}
use Rattle.meaning.specs.Answer.Stop.{Stopping}
use Rattle.meaning.proofs.Answer.Stop.{stopped_exactly}
use Rattle.limits.specs.declared.Refusal.{Refusal}
use Rattle.limits.specs.declared.Reason.{Reason}
use Rattle.limits.specs.declared.Reason.TheVariants.{Axis, Role, Hang, Zero}
use Rattle.limits.specs.Number.{reason_number}
use Rattle.query.specs.declared.QueryFault.TheVariants.{Length, Step}
use Rattle.query.proofs.Reasons.Laws.{four_at_most}
use Rattle.query.specs.Answer as checked
use Rattle.query.specs.Answer.{Owed}
use Rattle.query.proofs.Answer.Laws.{owed_given}
use Rattle.query.specs.Decode.{decode}
use Rattle.plan.specs.Planned.{plan_of}
use Rattle.plan_bytes.specs.Kept.{kept_in}
use Rattle.records.specs.Write.{records_of, nodes_in, buffer}
use Rattle.records.proofs.Write.Laws.{length_records, records_append, length_nodes}
use Rattle.numbers.specs.Numbers.{Said}
use Rattle.feed.specs.Fed.{Came}
use Rattle.feed.specs.Steps.{Seat, seat, step_at, Whole}
use Rattle.feed.specs.Steps.Laws.{whole_step}
use Rattle.offer.specs.Offer.{needed}
use Rattle.session.specs.declared.Session.{Session}
use Rattle.session.specs.declared.Begun as given
use Rattle.session.specs.declared.StartFault.{StartFault}
use Rattle.session.specs.declared.StartFault.TheVariants as start
use Rattle.session.specs.declared.Next.{Next}
use Rattle.session.specs.declared.Counts.{Counts}
use Rattle.session.specs.declared.Answer.{Answer}
use Rattle.session.specs.declared.Answer.TheVariants.{Refused, Taken}
use Rattle.session.specs.Begin.{fresh, said, start_answer, session_for, begun, BeginGives}
use Rattle.session.specs.Begin.Laws.{begin_one}
use Rattle.session.specs.Event as events
use Rattle.session.specs.Event.{Done, refused, session_numbers, stopped_by, settled, event, EventGives}
use Rattle.session.specs.Event.Laws.{stopped_other, event_refused, event_cases, event_is, event_one, finish_one}
use Rattle.session.specs.Run.{Housed, housed}
use Rattle.session.specs.Told.{told, ended}
use Rattle.promise.specs.Lending.{SameUsed, left_by}
use Rattle.promise.specs.Promise.{Of, begin_answer, begin_session, begin_of, ruled, finish_given, waiting_held, opened_is, handed_is, held_is}
use Rattle.promise.specs.Promise.Event.{room_long, event_answered, event_of_lem, event_written}
use Rattle.promise.specs.Theorem.Short.{event_short, event_small, event_stopped}
use Rattle.promise.specs.Theorem.{Use, Reply, stepped, finish, Played, unused, by_event, by_finish, Reached}
use Rattle.promise.specs.Theorem.{call_of, answer_of, records_by, written_in, stream_of, nodes_of, Begins, Promised, Same}

-- a refused event writes nothing
refused_none : (m : meaning.Answer) (n : ℕ) → meaning.refused n ≡ m → handed_by m ≡ []
unfolding handed_by
refused_none m n e = ap handed_by (sym e)

-- an event that was told k nodes has written k
taken_many : (m : meaning.Answer) (k : ℕ) (out : List ℕ) → meaning.taken (nodes_in k out) ≡ m → length (handed_by m) ≡ k
unfolding handed_by
taken_many m k out e = ap (λ (x : meaning.Answer). length (handed_by x)) (sym e) ∙ length_nodes k out

-- the records that stand in the buffer are those of the nodes told
pub told_records :
    (a : Answer) (m : meaning.Answer) (out out' : List ℕ) → told a out' ≡ m → out' ≡ buffer (handed_by m) out →
    records_by a out' ≡ records_of (handed_by m)
unfolding told records_by
told_records (Refused n) m out out' e w = sym (ap records_of (refused_none m n e) ∙ (unfold records_of in refl))
told_records (Taken k) m out out' e w =
    ap (take (4 * k)) w
    ∙ (unfold buffer in take_at (records_of (handed_by m)) _ (4 * k) (length_records (handed_by m) ∙ ap (λ (n : ℕ). 4 * n) (taken_many m k out' e)))

finish_none : (f : Result Counts Refusal) (m : meaning.Answer) → ended f ≡ m → handed_by m ≡ []
unfolding ended handed_by
finish_none (Err r) m e = ap handed_by (sym e)
finish_none (Ok c) m e = ap handed_by (sym e)

pub record Kept (b : List ℕ) (p : Past) (us : List Use) (rs : List Reply) (l : Housed) : Type 0 where
  pub of : Of b (after_all (decode b) p (map call_of us)) l
  pub answered : map answer_of rs ≡ answers (decode b) p (map call_of us)
  pub recorded : flat_map written_in rs ≡ records_of (handed_out (answers (decode b) p (map call_of us)))

pub play_kept : {b : List ℕ} {p : Past} {l k : Housed} {us : List Use} {rs : List Reply} → Of b p l → Played l us rs k → Kept b p us rs k
unfolding call_of answer_of written_in after_all answers handed_out flat_map
play_kept o unused = record { of = o; answered = refl; recorded = unfold records_of in refl }
play_kept {b} {p = past} o (by_event {bytes} {E} {N} {out} {E'} {N'} {out'} {r} same g p) =
    let c = Call.event bytes (record { out = length out; elements = length E; nodes = length N }) in
    let e : told r.answer out' ≡ answer (decode b) past c = event_answered o bytes E N out same r E' N' out' g in
    let k = play_kept {p = after (decode b) past c} (event_of_lem o bytes E N out same r E' N' out' g) p in
    record {
      of = k.of;
      answered = ap₂ ◌∷◌ e k.answered;
      recorded =
          ap₂ ◌++◌ (told_records r.answer (answer (decode b) past c) out out' e (event_written o bytes E N out same r E' N' out' g)) k.recorded
          ∙ sym (records_append (handed_by (answer (decode b) past c)) _);
    }
play_kept {b} {p = past} {l} o (by_finish {f} {us} g p) =
    let e = finish_given o f g in
    let rest = handed_out (answers (decode b) (after (decode b) past Call.finish) (map call_of us)) in
    let k = play_kept {p = after (decode b) past Call.finish} (subst (λ x. Of b x l) (sym (finish_same (decode b) past)) o) p in
    record {
      of = k.of;
      answered = ap₂ ◌∷◌ e k.answered;
      recorded = k.recorded ∙ ap (λ (ns : List ℕ). records_of (ns ++ rest)) (sym (finish_none f (answer (decode b) past Call.finish) e));
    }

pub reached_kept : {b : List ℕ} {us : List Use} {rs : List Reply} {l : Housed} → Reached b us rs l → Kept b (going []) us rs l
reached_kept {b} x = play_kept (begin_of b x.E x.N x.begun x.bytes x.begins x.admitted x.E x.N) x.played

-- an event that is taken
pub event_taken :
    {b : List ℕ} {p : Past} {l : Housed} → Of b p l → (bytes E N out E' N' out' : List ℕ) (r : Next) (k : ℕ) →
    (too_small (length E) (length N) ≡ false → SameUsed l E N) → EventGives l.session bytes E N out r E' N' out' → r.answer ≡ Taken k →
    drop (4 * k) out' ≡ drop (4 * k) out
unfolding told buffer
event_taken {b} {p} o bytes E N out E' N' out' r k same g h =
    let c = Call.event bytes (record { out = length out; elements = length E; nodes = length N }) in
    let ns = handed_by (answer (decode b) p c) in
    let many : length ns ≡ k =
    taken_many (answer (decode b) p c) k out' (ap (λ (y : Answer). told y out') (sym h) ∙ event_answered o bytes E N out same r E' N' out' g) in
    ap (drop (4 * k)) (event_written o bytes E N out same r E' N' out' g)
    ∙ drop_at (records_of ns) _ (4 * k) (length_records ns ∙ ap (λ (n : ℕ). 4 * n) many)
    ∙ ap (λ (n : ℕ). drop (4 * n) out) many

module _ {b : List ℕ} {us : List Use} {rs : List Reply} {l : Housed} (x : Reached b us rs l) where
  abbrev q : Query
  q = decode b

  abbrev es : List Event
  es = stream_of b us

  pub reached_of : Of b (after_all q (going []) (map call_of us)) l
  reached_of = (reached_kept x).of

  handed_out_lem : nodes_of rs ≡ handed_out (answers q (going []) (map call_of us))
  handed_out_lem = ap handed_out (reached_kept x).answered

  pub nodes_listed : nodes_of rs ≡ listed q (document es)
  nodes_listed = handed_out_lem ∙ handed_listed q (map call_of us)

  pub promised : Promised b us rs l
  promised =
      let ok = (ruled reached_of).admitted in
      record {
        answered = (reached_kept x).answered;
        stream = reached_of.stream;
        recorded = (reached_kept x).recorded ∙ ap records_of (sym handed_out_lem);
        order = subst (Rising 1) (sym nodes_listed) (list_order q (document es));
        listed = λ n. subst (λ ns. Memᴰ n ns ↔ ListedBy q es n) (sym nodes_listed) (listed_exactly q ok es reached_of.stream n);
        held_order = subst (Rising 1) (sym (waiting_held reached_of)) (held_order q (document es));
        held = λ n. subst (λ ns. Memᴰ n ns ↔ HeldBy q es n) (sym (waiting_held reached_of)) (held_exactly q ok es reached_of.stream n);
        opened = opened_is reached_of;
        handed = handed_is reached_of ∙ ap length (sym nodes_listed);
        kept = held_is reached_of ∙ ap length (sym (waiting_held reached_of));
        ruled = ruled_out_nodes q (document es);
        ruled_order = ruled_out_order q (document es);
        ruled_out = ruled_out_exactly q ok es reached_of.stream;
        sum = omega (arith, opened_is reached_of, handed_is reached_of, held_is reached_of, counts_add_up q (document es));
        stopped = subst₂ (λ (y : Bool) (given_so : List meaning.Answer). T y ↔ Stopping given_so) (sym reached_of.stop) (sym (reached_kept x).answered)
            (stopped_exactly q (map call_of us));
        whole = λ fin n.
            subst (λ ns. Memᴰ n ns ↔ Selected q sure-reading (document es) n) (sym nodes_listed) (list_explicit q ok es fin n);
        rest_same = λ bytes E N out E' N' out' r k same g h. event_taken reached_of bytes E N out E' N' out' r k same g h;
      }

-- an event on any session and room

-- a room A after an event that was lent B: what lies past the needed part, and how long it is
abbrev SameRoom : ℕ → List ℕ → List ℕ → Type 0
SameRoom needed A B = (drop needed A ≡ drop needed B) × (length A ≡ length B)

-- one of which the needed part came back as A
room_beside : (needed : ℕ) (A B : List ℕ) → length A ≡ needed → needed ≤ length B → SameRoom needed (A ++ drop needed B) B
room_beside needed A B long enough = (
  drop_at A (drop needed B) needed long,
  length-append A (drop needed B) ∙ omega (arith, length-drop needed B),
)

module _ (s : Session) (bytes E N out : List ℕ) where
  Rooms : Done → Type 0
  Rooms d = SameRoom elements_needed d.elements E × SameRoom nodes_needed d.nodes N

  abbrev at : Seat
  at = seat (session_numbers s) E N

  abbrev came : Came Seat
  came = step_at (kept_in s.kept) (needed at) bytes out

  rooms : Rooms (event s bytes E N out)
  unfolding settled Rooms
  rooms =
      subst Rooms (sym (event_cases s bytes E N out))
      (when_either Rooms _ _ _ ((refl, refl), (refl, refl))
      (when_known Rooms (too_small (length E) (length N)) _ _ (λ t. ((refl, refl), (refl, refl)))
      (λ f.
      let enough = room_long E N f in
      let longE : length (take elements_needed E) ≡ elements_needed = length-take-le elements_needed E enough.0 in
      let longN : length (take nodes_needed N) ≡ nodes_needed = length-take-le nodes_needed N enough.1 in
      let whole : Whole came.seat =
      whole_step (kept_in s.kept) (needed at) bytes out (record { elements = longE; nodes = longN; said = said_own }) in (
        room_beside elements_needed came.seat.elements E whole.elements enough.0,
        room_beside nodes_needed came.seat.nodes N whole.nodes enough.1,
      ))))
    where
      said_own : Said (session_numbers s)
      said_own = record { ended = bool_byte_le s.ended; stopped = bool_byte_le s.stopped }

-- what comes back of a refused one
event_back :
    (s : Session) (bytes E N out : List ℕ) (r : Next) (E' N' out' : List ℕ) → EventGives s bytes E N out r E' N' out' →
    (n : ℕ) → r.answer ≡ Refused n →
    ◌≡◌ {A = Done} (record { answer = r.answer; session = r.session; elements = E'; nodes = N'; out = out' }) (refused n (stopped_by n s) E N out)
event_back s bytes E N out r E' N' out' g n e =
    let is = event_is s bytes E N out r E' N' out' g in
    is ∙ event_refused s bytes E N out n (sym (ap (λ (d : Done). d.answer) is) ∙ e)

stops_not : (n : ℕ) → ((2 ≤ n) × (n ≤ 7) → ⊥) → stops n ≡ false
stops_not n f = is_false (stops n) (λ t. f ((stops_exactly n).0 t))

pub same :
    (s : Session) (bytes E N out : List ℕ) (r : Next) (E' N' out' : List ℕ) → EventGives s bytes E N out r E' N' out' → Same s bytes E N out r E' N' out'
unfolding Rooms
same s bytes E N out r E' N' out' g =
    let is = event_is s bytes E N out r E' N' out' g in
    let kept = subst (Rooms s bytes E N out) (sym is) (rooms s bytes E N out) in
    let back = event_back s bytes E N out r E' N' out' g in
    record {
      refused_same = λ n e. (
        ap (λ (d : Done). d.session) (back n e),
        (ap (λ (d : Done). d.elements) (back n e), (ap (λ (d : Done). d.nodes) (back n e), ap (λ (d : Done). d.out) (back n e))),
      );
      others_same = λ n e f. ap (λ (d : Done). d.session) (back n e) ∙ stopped_other n s (stops_not n f);
      past_same = (kept.0.0, kept.1.0);
      short_exactly = subst (λ (d : Done). (d.answer ≡ Refused short_output) ↔ (length out < output_needed)) (sym is) (event_short s bytes E N out);
      small_exactly =
          subst (λ (d : Done). (d.answer ≡ Refused short_room) ↔ ((output_needed ≤ length out) × (too_small (length E) (length N) ≡ true))) (sym is)
          (event_small s bytes E N out);
      stopped_exactly =
          subst
          (λ (d : Done).
          (d.answer ≡ Refused already_stopped) ↔ ((output_needed ≤ length out) × (too_small (length E) (length N) ≡ false) × T s.stopped))
          (sym is) (event_stopped s bytes E N out);
    }

pub event_long :
    (s : Session) (bytes E N out : List ℕ) (r : Next) (E' N' out' : List ℕ) → EventGives s bytes E N out r E' N' out' →
    (length E' ≡ length E) × (length N' ≡ length N)
unfolding Rooms
event_long s bytes E N out r E' N' out' g =
    let kept = subst (Rooms s bytes E N out) (sym (event_is s bytes E N out r E' N' out' g)) (rooms s bytes E N out) in (kept.0.1, kept.1.1)

-- begin

refused_session : (a : Result (Unit {0}) StartFault) (b : List ℕ) → (a ≡ Ok tt → ⊥) → session_for (said a) b ≡ fresh (plan_of [])
unfolding said checked.said session_for
refused_session (Ok t) b f = absurd (f refl)
refused_session (Err start.ShortRoom) b f = refl
refused_session (Err (start.Query Length)) b f = refl
refused_session (Err (start.Query (Step k r))) b f = refl

blank_session :
    (b E N : List ℕ) (r : given.Begun) → BeginGives b E N r → (r.answer ≡ Ok tt → ⊥) → r.session ≡ fresh (plan_of [])
blank_session b E N r g f =
    begin_session b E N r g
    ∙ ap (λ (a : checked.Answer). session_for a b) (sym (begin_answer b E N r g))
    ∙ refused_session r.answer b f

pub begins : (b E N : List ℕ) (r : given.Begun) → BeginGives b E N r → Begins b E N r
unfolding start_answer
begins b E N r g =
    record {
      small = λ t. begin_answer b E N r g ∙ when_true (too_small (length E) (length N)) (checked.refused short_room) (checked.answer_to b) t;
      answered =
          λ f. subst (Owed b) (sym (begin_answer b E N r g ∙ when_false (too_small (length E) (length N)) _ (checked.answer_to b) f)) (owed_given b);
      blank = λ f b' E' N' r' g' f'. blank_session b E N r g f ∙ sym (blank_session b' E' N' r' g' f');
    }

-- every call has a result

-- an answer that is owed is one that the code's types have

reason_said : (r : ℕ) → 1 ≤ r → r ≤ 4 → (t : Reason) × (reason_number t ≡ r)
reason_said zero h k = absurd (omega arith)
reason_said (suc zero) h k = (Axis, refl)
reason_said (suc (suc zero)) h k = (Role, refl)
reason_said (suc (suc (suc zero))) h k = (Hang, refl)
reason_said (suc (suc (suc (suc zero)))) h k = (Zero, refl)
reason_said (suc (suc (suc (suc (suc r))))) h k = absurd (omega arith)

owed_said : (b : List ℕ) (a : checked.Answer) → Owed b a → (x : Result (Unit {0}) StartFault) × (said x ≡ a)
unfolding said checked.said
owed_said b checked.admitted o = (Ok tt, refl)
owed_said b (checked.refused n) o = (Err (start.Query Length), ap checked.refused (sym o.0))
owed_said b (checked.refused_at n k r) o =
    let due = four_at_most b o.1.before o.1.due in
    let t = reason_said r due.0 due.1 in
    (Err (start.Query (Step k t.0)), ap₂ (λ (m i : ℕ). checked.refused_at m k i) (sym o.0) t.1)

answer_said : (b E N : List ℕ) → (x : Result (Unit {0}) StartFault) × (said x ≡ start_answer b E N)
unfolding start_answer
answer_said b E N =
    when_either (λ (a : checked.Answer). (x : Result (Unit {0}) StartFault) × (said x ≡ a)) (too_small (length E) (length N)) _ _
    (Err start.ShortRoom, unfold said in refl) (owed_said b (checked.answer_to b) (owed_given b))

pub begin_some : (b E N : List ℕ) → (r : given.Begun) × BeginGives b E N r
unfolding begun
begin_some b E N =
    let x = answer_said b E N in (
      record { answer = x.0; session = session_for (start_answer b E N) b },
      ap (λ (a : checked.Answer). record { answer = a; session = session_for (start_answer b E N) b }) x.1,
    )

pub event_some :
    (s : Session) (bytes E N out : List ℕ) → (r : Next) × (E' : List ℕ) × (N' : List ℕ) × (out' : List ℕ) × EventGives s bytes E N out r E' N' out'
event_some s bytes E N out =
    let d = event s bytes E N out in (record { answer = d.answer; session = d.session }, d.elements, d.nodes, d.out, refl)

pub finish_some : (s : Session) → (f : Result Counts Refusal) × events.FinishGives s f
finish_some s = (events.finish s, refl)

-- one list of replies

played_one : {l k k' : Housed} {us : List Use} {rs rs' : List Reply} → Played l us rs k → Played l us rs' k' → (rs ≡ rs') × (k ≡ k')
played_one unused unused = (refl, refl)
played_one {l} {k} {k'} (by_event {bytes} {E} {N} {out} {E'} {N'} {out'} {r} {us} same g p)
    (by_event {E' = E''} {N' = N''} {out' = out''} {r = r'} {rs = rs'} same' g' p') =
    let e = event_one l.session bytes E N out r r' E' E'' N' N'' out' out'' g g' in
    let left : left_by l E N r.session E' N' ≡ left_by l E N r'.session E'' N'' =
    λ i. left_by l E N (e.0 i).session (e.1.0 i) (e.1.1.0 i) in
    let rest = played_one {k' = k'} p (subst (λ (m : Housed). Played m us rs' k') (sym left) p') in
    (ap₂ ◌∷◌ (λ i. stepped (e.0 i) (e.1.0 i) (e.1.1.0 i) (e.1.1.1 i)) rest.0, rest.1)
played_one {l} (by_finish {f} g p) (by_finish {f = f'} g' p') =
    let rest = played_one p p' in (ap₂ ◌∷◌ (ap finish (finish_one l.session f f' g g')) rest.0, rest.1)

pub uses_one :
    (b E N : List ℕ) (r r' : given.Begun) {us : List Use} {rs rs' : List Reply} {l l' : Housed} → BeginGives b E N r → BeginGives b E N r' →
    Played (housed r.session E N) us rs l → Played (housed r'.session E N) us rs' l' → (r ≡ r') × (rs ≡ rs') × (l ≡ l')
uses_one b E N r r' {us} {rs} {rs'} {l} {l'} g g' p p' =
    let e = begin_one b E N r r' g g' in
    let k = played_one {k' = l'} p (subst (λ (x : given.Begun). Played (housed x.session E N) us rs' l') (sym e) p') in
    (e, k.0, k.1)
