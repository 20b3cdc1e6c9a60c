-- One answer to each call after each past; a refused call changes nothing but the stop; the answers to any calls, put together.
--
--   Applies q p c r        refusal r applies to the call c after the past p
--   Gives q p c a          document 01's rule: a is the first refusal that applies, in their order, or, where none does, what the call yields
--   answer_gives           the answer is given by the rule;  gives_unique: and only that one
--   refused_same           a refused call leaves all as it was but the stop;  finish_same: finish changes nothing at all
--   taken_added            a taken event is added to the accepted events, and the stop is as it was
--   after_stream, accepted_stream      the accepted events are a well-formed stream
--   after_append           calls after other calls
--   call_listed            what a call hands out is what it newly lists: a node is "handed out by the event that makes this true"
--   handed_listed          what any calls hand out, put together, is the list for the events accepted
--   finish_counts          finish answers the number of nodes opened and the number handed out since the start
--   none_applies           where `first` finds no refusal, none applies;  never_refuses: what a call yields is no refusal
--   not_small, few_elements_lem, few_nodes_lem      when room is too small;  room_enough: room beyond what is needed changes no answer
--   act_document           the document that a call is judged by is that of the events accepted after it
--
-- Assumes nothing, of the query neither.
use Rattle.std.specs.Prelude.{ℕ, ◌≤◌, ◌<◌, ◌≡◌, refl, Bool, false, not, ◌||◌, ltb, drop}
use Rattle.std.proofs.Common.{arith, sym, ap₂, ◌∙◌, le-ltb, lt-ltb}
use Rattle.std.proofs.Math.Path.{ap, subst}
use Rattle.std.proofs.Math.Bool.{true, or-false}
use mathlib.Core.List.{List, [], ◌∷◌, ◌++◌, append-nil, append_assoc}
use Rattle.std.proofs.Math.Option.{Option, none, some}
use Rattle.std.proofs.Math.Dec.{T}
use Rattle.std.proofs.Math.ListN.{length}
use Rattle.std.proofs.Math.Seq.{drop-append_seam}
use Rattle.meaning.specs.Limits.{output_needed, elements_needed, nodes_needed}
use Rattle.meaning.specs.Logic.{and_i}
use Rattle.meaning.specs.Name.{is_name}
use Rattle.meaning.specs.Query.{Query}
use Rattle.meaning.specs.Document.{Doc, blank, count, finished, ends_at}
use Rattle.meaning.specs.Stream.{Event, opens, closes, fits, run, document, always, Stream}
use Rattle.meaning.proofs.Stream.Laws.{always_append, document_append}
use Rattle.meaning.specs.Record.{event_of}
use Rattle.meaning.specs.Record.Laws.{Records, open_record}
use Rattle.meaning.proofs.Record.Laws.{name_exactly, event_exactly}
use Rattle.meaning.specs.Selection.{marks_row, marks, selections}
use Rattle.meaning.specs.Standing.{standings_of, standings, listed_from, listed}
use Rattle.meaning.proofs.Demands.{list_grows}
use Rattle.meaning.specs.Refusals.{short_output, short_room, already_stopped, unfinished, rank_if, rank, stops}
use Rattle.meaning.proofs.Refusals.Laws.{rank_one}
use Rattle.meaning.proofs.Table.Laws.{in_order, Outcome, first_is, none_is, first_outcome}
use Rattle.meaning.specs.Answer.{Lent, enough, Call, event, finish, Answer, refused, taken, ended, Past, going, stopped_by, Refusal, is_bad}
use Rattle.meaning.specs.Answer.{closes_wrong, act_if, too_small, event_refusals, finish_refusals, refusals, first_or, first, yield, answer_if, answer}
use Rattle.meaning.specs.Answer.{events_of, call_events, after_if, after, answers, after_all, handed_by, handed_out}
use Rattle.meaning.specs.Answer.Laws.{Applies, Gives, refuses, yields}

-- the table stands in the order of the places
table_in_order : (q : Query) (p : Past) (c : Call) → T (in_order rank 0 (refusals q p c))
unfolding refusals event_refusals finish_refusals in_order rank rank_if
table_in_order q p (event bs lent) = tt
table_in_order q p finish = tt

pub answer_gives : (q : Query) (p : Past) (c : Call) → Gives q p c (answer q p c)
unfolding answer answer_if
answer_gives q p c = go (first_outcome rank 0 _ (table_in_order q p c))
  where
    go : {o : Option ℕ} → Outcome rank (refusals q p c) o → Gives q p c (answer_if o (yield q (document p.events) c))
    go (first_is m f) = refuses m f
    go (none_is f) = yields f

pub gives_unique : (q : Query) (p : Past) (c : Call) {a b : Answer} → Gives q p c a → Gives q p c b → a ≡ b
gives_unique q p c (refuses {r} m f) (refuses {r = s} n g) =
    let l : rank r ≤ rank s = f s n in
    let k : rank s ≤ rank r = g r m in
    ap refused (rank_one r s (omega arith))
gives_unique q p c (refuses {r} m f) (yields g) = absurd (g r m)
gives_unique q p c (yields f) (refuses {r} m g) = absurd (f r m)
gives_unique q p c (yields f) (yields g) = refl

pub never_refuses : (q : Query) (d : Doc) (c : Call) (r : ℕ) → yield q d c ≡ refused r → ⊥
unfolding yield
never_refuses q d (event bs lent) r e = let z : ◌≡◌ {A = ℕ} 0 1 = cc in omega arith
never_refuses q d finish r e = let z : ◌≡◌ {A = ℕ} 0 1 = cc in omega arith

-- "The refused call changes nothing but this"
pub refused_same : (q : Query) (p : Past) (c : Call) (r : ℕ) → answer q p c ≡ refused r → after q p c ≡ stopped_by r p
unfolding answer after answer_if after_if
refused_same q p c r e = go (first (refusals q p c)) e
  where
    go : (o : Option ℕ) → answer_if o (yield q (document p.events) c) ≡ refused r → after_if o p (call_events c) ≡ stopped_by r p
    go (some s) e = let z : s ≡ r = cc in ap (λ k. stopped_by k p) z
    go none e = absurd (never_refuses q (document p.events) c r e)

-- neither 11 nor 8 stops
pub finish_same : (q : Query) (p : Past) → after q p finish ≡ p
unfolding after call_events after_if refusals finish_refusals first first_or stops
finish_same q p = go p.stopped (not (finished (document p.events)))
  where
    same : record { events = p.events; stopped = p.stopped || false } ≡ p
    same = ap (λ b. record { events = p.events; stopped = b }) (or-false p.stopped)

    go : (b c : Bool) → after_if (first_or b already_stopped (first_or c unfinished none)) p [] ≡ p
    go true c = same
    go false true = same
    go false false = ap (λ es. record { events = es; stopped = p.stopped }) (append-nil p.events)

-- a call that is not refused is added, and fits the stream
pub none_applies : (q : Query) (p : Past) (c : Call) → first (refusals q p c) ≡ none → (s : ℕ) → Applies q p c s → ⊥
none_applies q p c e = go e (first_outcome rank 0 _ (table_in_order q p c))
  where
    go : {o : Option ℕ} → o ≡ none → Outcome rank (refusals q p c) o → (s : ℕ) → Applies q p c s → ⊥
    go e (first_is m f) = let z : ◌≡◌ {A = ℕ} 0 1 = cc in absurd (omega arith)
    go e (none_is f) = f

-- room beyond what is needed
pub not_small : (elements nodes : ℕ) → elements_needed ≤ elements → nodes_needed ≤ nodes → too_small elements nodes ≡ false
unfolding too_small
not_small elements nodes h k = ap₂ ◌||◌ (le-ltb elements elements_needed h) (le-ltb nodes nodes_needed k)

pub few_elements_lem : (elements nodes : ℕ) → elements < elements_needed → too_small elements nodes ≡ true
unfolding too_small
few_elements_lem elements nodes h = ap (◌|| ltb nodes nodes_needed) (lt-ltb elements elements_needed h)

pub few_nodes_lem : (elements nodes : ℕ) → elements_needed ≤ elements → nodes < nodes_needed → too_small elements nodes ≡ true
unfolding too_small
few_nodes_lem elements nodes h k = ap₂ ◌||◌ (le-ltb elements elements_needed h) (lt-ltb nodes nodes_needed k)

pub room_enough :
    (q : Query) (p : Past) (bs : List ℕ) (lent : Lent) → output_needed ≤ lent.out → elements_needed ≤ lent.elements → nodes_needed ≤ lent.nodes →
    first (refusals q p (event bs lent)) ≡ first (refusals q p (event bs enough))
unfolding refusals event_refusals first
room_enough q p bs lent h k l =
    ap₂
    (λ (a b : Bool).
    first_or a short_output (first_or b short_room (first (drop 2 (event_refusals q p.stopped (document p.events) (event_of bs) enough)))))
    (le-ltb lent.out output_needed h ∙ sym (le-ltb output_needed output_needed (omega arith)))
    (not_small lent.elements lent.nodes k l ∙ sym (not_small elements_needed nodes_needed (omega arith) (omega arith)))

record Passed (r : Refusal) (rs : List Refusal) : Type 0 where
  clear : T (not r.applies)
  others : first rs ≡ none

passed : (r : Refusal) (rs : List Refusal) → first (r ∷ rs) ≡ none → Passed r rs
unfolding first first_or
passed r rs e = go r.applies refl e
  where
    go : (b : Bool) → r.applies ≡ b → first_or b r.number (first rs) ≡ none → Passed r rs
    go true a e = let z : ◌≡◌ {A = ℕ} 0 1 = cc in absurd (omega arith)
    go false a e = record { clear = subst (λ b. T (not b)) (sym a) tt; others = e }

event_named : (bs : List ℕ) (n : ℕ) → event_of bs ≡ some (opens n) → T (is_name n)
event_named bs n e = go ((event_exactly bs (opens n)).0 e)
  where
    go : {bs : List ℕ} {n : ℕ} → Records bs (opens n) → T (is_name n)
    go (open_record k) = (name_exactly _).1 k

not_not : (b : Bool) → T (not (not b)) → T b
not_not true t = tt
not_not false t = t

unrefused_fits :
    (q : Query) (p : Past) (bs : List ℕ) (lent : Lent) (e : Event) → event_of bs ≡ some e → first (refusals q p (event bs lent)) ≡ none →
    T (fits e (document p.events))
unfolding refusals event_refusals
unrefused_fits q p bs lent e is o =
    let one = passed _ _ o in
    let fifteen = passed _ _ one.others in
    let eleven = passed _ _ fifteen.others in
    let two = passed _ _ eleven.others in
    let three = passed _ _ two.others in
    let four = passed _ _ three.others in
    go e is three.clear (subst (λ x. T (not (closes_wrong x d))) is four.clear)
  where
    d : Doc
    d = document p.events

    go : (e : Event) → event_of bs ≡ some e → T (not (finished d)) → T (not (closes_wrong (some e) d)) → T (fits e d)
    go (opens n) is f w = unfold fits in and_i (is_name n) _ (event_named bs n is) f
    go (closes n) is f w = unfold fits closes_wrong in not_not (ends_at n d) w

not_bad : (o : Option Event) → T (not (is_bad o)) → (e : Event) × (o ≡ some e)
unfolding is_bad
not_bad none t = absurd t
not_bad (some e) t = (e, refl)

pub taken_added :
    (q : Query) (p : Past) (bs : List ℕ) (lent : Lent) (ns : List ℕ) → answer q p (event bs lent) ≡ taken ns →
    (e : Event) × (event_of bs ≡ some e) × (after q p (event bs lent) ≡ record { events = p.events ++ (e ∷ []); stopped = p.stopped })
unfolding answer answer_if after after_if call_events
taken_added q p bs lent ns a = go (first (refusals q p (event bs lent))) refl a
  where
    good : first (refusals q p (event bs lent)) ≡ none → (e : Event) × (event_of bs ≡ some e)
    good n =
        unfold refusals event_refusals in not_bad (event_of bs) (passed _ _ (passed _ _ (passed _ _ (passed _ _ n).others).others).others).clear

    go :
        (o : Option ℕ) → first (refusals q p (event bs lent)) ≡ o → answer_if o (yield q (document p.events) (event bs lent)) ≡ taken ns →
        (e : Event) × (event_of bs ≡ some e)
        × (after_if o p (events_of (event_of bs)) ≡ record { events = p.events ++ (e ∷ []); stopped = p.stopped })
    go (some r) n a = let z : ◌≡◌ {A = ℕ} 0 1 = cc in absurd (omega arith)
    go none n a =
        let w = good n in
        (w.0, w.1, unfold events_of in ap (λ x. record { events = p.events ++ events_of x; stopped = p.stopped }) w.1)

stream_call : (q : Query) (p : Past) (c : Call) → Stream p.events → first (refusals q p c) ≡ none → Stream (p.events ++ call_events c)
unfolding call_events
stream_call q p finish s o = subst Stream (sym (append-nil p.events)) s
stream_call q p (event bs lent) s o = go (event_of bs) refl
  where
    go : (x : Option Event) → event_of bs ≡ x → Stream (p.events ++ events_of x)
    go none is = unfold events_of in subst Stream (sym (append-nil p.events)) s
    go (some e) is =
        let t : T (fits e (document p.events)) = unrefused_fits q p bs lent e is o in
        unfold events_of document always in
        always_append fits p.events (e ∷ []) blank s (and_i (fits e (run p.events blank)) true t tt)

pub after_stream : (q : Query) (p : Past) (c : Call) → Stream p.events → Stream (after q p c).events
unfolding after after_if
after_stream q p c s = go (first (refusals q p c)) refl
  where
    go : (o : Option ℕ) → first (refusals q p c) ≡ o → Stream (after_if o p (call_events c)).events
    go (some r) e = s
    go none e = stream_call q p c s e

pub after_append : (q : Query) (p : Past) (cs ds : List Call) → after_all q p (cs ++ ds) ≡ after_all q (after_all q p cs) ds
unfolding after_all
after_append q p [] ds = refl
after_append q p (c ∷ cs) ds = after_append q (after q p c) cs ds

pub accepted_stream : (q : Query) (p : Past) (cs : List Call) → Stream p.events → Stream (after_all q p cs).events
unfolding after_all
accepted_stream q p [] s = s
accepted_stream q p (c ∷ cs) s = accepted_stream q (after q p c) cs (after_stream q p c s)

-- what one call hands out is what it newly lists
new_part : (xs ys more : List ℕ) → ys ≡ xs ++ more → xs ++ drop (length xs) ys ≡ ys
new_part xs ys more e = rw e (ap (xs ++◌) (drop-append_seam xs more))

pub act_document : (es : List Event) (x : Option Event) → act_if x (document es) ≡ document (es ++ events_of x)
unfolding act_if events_of run
act_document es none = ap document (sym (append-nil es))
act_document es (some e) = sym (document_append es (e ∷ []))

act_listed :
    (q : Query) (es : List Event) (x : Option Event) →
    listed q (document es) ++ drop (length (listed q (document es))) (listed q (act_if x (document es))) ≡ listed q (document (es ++ events_of x))
act_listed q es x =
    let m = list_grows q es (events_of x) in
    ap (λ d. listed q (document es) ++ drop (length (listed q (document es))) (listed q d)) (act_document es x)
    ∙ new_part (listed q (document es)) (listed q (document (es ++ events_of x))) m.0 m.1

-- the list after the events of a past
abbrev list_for : Query → Past → List ℕ
list_for q p = listed q (document p.events)

yield_listed :
    (q : Query) (es : List Event) (c : Call) → listed q (document es) ++ handed_by (yield q (document es) c) ≡ listed q (document (es ++ call_events c))
unfolding yield call_events handed_by
yield_listed q es (event bs lent) = act_listed q es (event_of bs)
yield_listed q es finish = append-nil (listed q (document es)) ∙ ap (λ fs. listed q (document fs)) (sym (append-nil es))

pub call_listed :
    (q : Query) (p : Past) (c : Call) → listed q (document p.events) ++ handed_by (answer q p c) ≡ listed q (document (after q p c).events)
unfolding answer after answer_if after_if handed_by
call_listed q p c = go (first (refusals q p c))
  where
    go : (o : Option ℕ) → list_for q p ++ handed_by (answer_if o (yield q (document p.events) c)) ≡ list_for q (after_if o p (call_events c))
    go (some r) = append-nil (list_for q p)
    go none = yield_listed q p.events c

answers_listed : (q : Query) (p : Past) (cs : List Call) → list_for q p ++ handed_out (answers q p cs) ≡ list_for q (after_all q p cs)
unfolding answers after_all handed_out
answers_listed q p [] = append-nil (list_for q p)
answers_listed q p (c ∷ cs) =
    sym (append_assoc (list_for q p) (handed_by (answer q p c)) (handed_out (answers q (after q p c) cs)))
    ∙ ap (◌++ handed_out (answers q (after q p c) cs)) (call_listed q p c)
    ∙ answers_listed q (after q p c) cs

none_listed : (q : Query) → listed q (document []) ≡ []
unfolding listed listed_from standings standings_of selections marks marks_row document run
none_listed q = refl

pub handed_listed : (q : Query) (cs : List Call) → handed_out (answers q (going []) cs) ≡ listed q (document (after_all q (going []) cs).events)
handed_listed q cs = ap (◌++ handed_out (answers q (going []) cs)) (sym (none_listed q)) ∙ answers_listed q (going []) cs

pub finish_counts :
    (q : Query) (cs : List Call) (k h : ℕ) → answer q (after_all q (going []) cs) finish ≡ ended k h →
    (k ≡ count (document (after_all q (going []) cs).events)) × (h ≡ length (handed_out (answers q (going []) cs)))
finish_counts q cs k h e = go (answer_gives q p finish) e
  where
    p : Past
    p = after_all q (going []) cs

    go :
        {a : Answer} → Gives q p finish a → a ≡ ended k h → (k ≡ count (document p.events)) × (h ≡ length (handed_out (answers q (going []) cs)))
    go (refuses m f) e = let z : ◌≡◌ {A = ℕ} 0 1 = cc in absurd (omega arith)
    go (yields f) e = counted (unfold yield in e)
      where
        counted :
            ended (count (document p.events)) (length (list_for q p)) ≡ ended k h →
            (k ≡ count (document p.events)) × (h ≡ length (handed_out (answers q (going []) cs)))
        counted e = (cc, (let z : h ≡ length (list_for q p) = cc in z ∙ ap length (sym (handed_listed q cs))))
