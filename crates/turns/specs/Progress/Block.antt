-- A block of events, in the words of the meaning.
--
--   Enough l                 the room of l is not too small
--   BlockProgress b es bs n out f     f is what the first n records of bs, offered one after the other with the buffer out, must come to
--   fed_progress             what a block of events comes to (crate session, Run) on a session and room that calls reach
--   block_fed l bs out        the block of the whole records of bs
--   then_fed                 TWO BLOCKS ONE AFTER THE OTHER ARE ONE STREAM: what was offered so far, and then a block of what is left
--   fed_fed                  a block, and then a block of what it left, each with a buffer of its own
--
-- Assumes nothing.
use Rattle.std.specs.Prelude.{ℕ, zero, suc, ◌+◌, ◌*◌, ◌/◌, ◌≤◌, ◌<◌, Bool, false, eqb, ltb, take, drop}
use Rattle.std.proofs.Common.{arith, ap₂, ◌∙◌, take_at, ne_eqb, ltb-true, ltb-false}
use Rattle.std.proofs.Math.Path.{◌≡◌, refl, sym, ap, subst}
use Rattle.std.proofs.Math.Bool.{true}
use mathlib.Core.List.{List, ◌++◌, append-nil}
use Rattle.std.proofs.Math.Option.{Option, none, some}
use mir.Val.{bool_byte}
use Rattle.std.proofs.Math.ListN.{length, length-drop}
use Rattle.choice.specs.When.{when, when_true, when_false, when_known}
use Rattle.meaning.specs.Limits.{output_needed}
use Rattle.meaning.proofs.Limits.Laws.{node_limit_is}
use Rattle.meaning.specs.Refusals.{stops}
use Rattle.meaning.specs.Stream as Stream
use Rattle.meaning.specs.Stream.{document}
use Rattle.meaning.specs.Standing.{listed}
use Rattle.meaning.specs.Answer as meaning
use Rattle.meaning.specs.Answer.{Call, Past, going, too_small, refusals, first, yield, answer_if, answer, call_events, after_if, after, handed_by}
use Rattle.meaning.proofs.Answer.Laws.{room_enough, call_listed}
use Rattle.meaning.proofs.Answer.Bounds.{after_bounded, handed_within}
use Rattle.meaning.specs.Offering.{offer, offering}
use Rattle.meaning.proofs.Offering.Laws.{one_record, refused_record}
use Rattle.query.specs.Decode.{decode}
use Rattle.records.specs.Write.{records_of, nodes_in, buffer}
use Rattle.records.proofs.Write.Laws.{length_records, Nodes, nodes_in_append, length_nodes}
use Rattle.feed.specs.Fed.{Came, Fed, none as none-fed, one, and_then, fed}
use Rattle.session.specs.declared.Session.{Session}
use Rattle.session.specs.declared.Answer.{Answer}
use Rattle.session.specs.declared.Answer.TheVariants.{Refused, Taken}
use Rattle.session.specs.Event.{Done, told_of, event}
use Rattle.session.specs.Run.{Housed, housed, refusal_of, listed_of, came_as, event_at}
use Rattle.session.specs.Told.{told}
use Rattle.promise.specs.Lending.{SameUsed, left_by}
use Rattle.promise.specs.Promise.{Of}
use Rattle.promise.specs.Promise.Event.{room_long, Given, event_owed}
use Rattle.promise.specs.Theorem.Replies.{same, event_long}
use Rattle.promise.specs.Theorem.Blocks.{left_is, used_back, refused_some}
use Rattle.turns.specs.Progress.{Progress}
use Rattle.turns.specs.Progress.Laws.{progress_none, progress_going, progress_then}

abbrev pub Enough : Housed → Type 0
Enough l = too_small (length l.elements) (length l.nodes) ≡ false

pub record BlockProgress (b : List ℕ) (es : List Stream.Event) (bs : List ℕ) (n : ℕ) (out : List ℕ) (f : Fed Housed) : Type 0 where
  pub offered : Progress b es bs f.seat f.taken f.refusal (nodes_in f.listed f.out)
  pub enough : Enough f.seat
  -- only a whole record is refused; with room enough no block is left standing
  pub whole : (f.refusal ≡ 0 → ⊥) → 8 * f.taken + 8 ≤ length bs
  pub some : 0 < n → output_needed ≤ length out → f.refusal ≡ 0 → 0 < f.taken

-- the list records of ns at the start of a buffer, and then others behind them
nodes_both :
    (ns out more : List ℕ) (k : ℕ) → Nodes ns →
    nodes_in (length ns + k) (take (4 * length ns) (buffer ns out) ++ more) ≡ ns ++ nodes_in k more
unfolding buffer
nodes_both ns out more k h =
    ap (λ (l : List ℕ). nodes_in (length ns + k) (l ++ more)) (take_at (records_of ns) _ (4 * length ns) (length_records ns))
    ∙ nodes_in_append ns more k h

none_progress :
    {b : List ℕ} {es : List Stream.Event} {l : Housed} (bs out : List ℕ) (n : ℕ) → (0 < n → output_needed ≤ length out → ⊥) → Enough l → Of b (going es) l →
    BlockProgress b es bs n out (none-fed l out)
unfolding nodes_in
none_progress bs out n idle e o =
    record { offered = progress_none bs o; enough = e; whole = λ z. absurd (z refl); some = λ p w z. absurd (idle p w) }

-- the events accepted after the first record
abbrev events_by : List ℕ → List Stream.Event → List ℕ → List Stream.Event
events_by b es bs = (after (decode b) (going es) (offer bs)).events

-- one event that was refused, or taken and followed by others

module _ {b : List ℕ} {es : List Stream.Event} (bs out : List ℕ) (n : ℕ) (long : 8 * suc n ≤ length bs) where
  refused_progress :
      (r : ℕ) → first (refusals (decode b) (going es) (offer bs)) ≡ some r → 0 < r → (l : Housed) → Enough l → (stop : Bool) →
      Of b (record { events = es; stopped = stop }) l → BlockProgress b es bs (suc n) out (one (record { refusal = r; listed = 0; seat = l; out = out }))
  unfolding nodes_in offering
  refused_progress r e positive l enough stop o =
      let none_taken : bool_byte (eqb r 0) ≡ 0 = ap bool_byte (ne_eqb r 0 (λ z. omega arith)) in
      record {
        offered =
            record {
              events = es;
              stop = stop;
              reached = o;
              going_on = λ z. absurd (omega arith);
              within = omega arith;
              accepted = ap (λ (k : ℕ). offering (decode b) k es bs) none_taken;
              left = λ z. omega arith;
              refused = λ z.
                  ap (λ (k : ℕ). offering (decode b) 1 es (drop (8 * k) bs)) none_taken ∙ refused_record (decode b) es bs r e;
              listing = append-nil (listed (decode b) (document es));
            };
        enough = enough;
        whole = λ z. omega arith;
        some = λ p w z. absurd (omega arith);
      }

  module _ (e : first (refusals (decode b) (going es) (offer bs)) ≡ none) (l : Housed) (reached : Of b (going (events_by b es bs)) l) (ns : List ℕ)
      (listing : listed (decode b) (document es) ++ ns ≡ listed (decode b) (document (events_by b es bs))) (nodes : Nodes ns) where
    once : Progress b es bs l 1 0 ns
    once =
        record {
          events = events_by b es bs;
          stop = false;
          reached = reached;
          going_on = λ z. refl;
          within = omega arith;
          accepted = one_record (decode b) es bs e;
          left = λ z. absurd (z refl);
          refused = λ z. absurd (z refl);
          listing = listing;
        }

    taken_progress :
        (f : Fed Housed) → BlockProgress b (events_by b es bs) (drop 8 bs) n (drop (4 * length ns) (buffer ns out)) f →
        BlockProgress b es bs (suc n) out (and_then (one (record { refusal = 0; listed = length ns; seat = l; out = buffer ns out })) f)
    unfolding and_then once
    taken_progress f t =
        record {
          offered =
              subst (Progress b es bs f.seat (1 + f.taken) f.refusal) (sym (nodes_both ns out f.out f.listed nodes))
              (progress_then once t.offered);
          enough = t.enough;
          whole = λ z. omega (arith, t.whole z, length-drop 8 bs);
          some = λ p w z. omega arith;
        }

-- one event, by the first refusal that applies, and what comes next

module _ {b : List ℕ} {es : List Stream.Event} {l : Housed} (o : Of b (going es) l) (enough : Enough l) (n : ℕ) (bs out : List ℕ) (long : 8 * suc n ≤ length bs)
    (wide : output_needed ≤ length out)
    (rest : (es' : List Stream.Event) (l' : Housed) (out' : List ℕ) → Of b (going es') l' → Enough l' →
    BlockProgress b es' (drop 8 bs) n out' (fed event_at n l' (drop 8 bs) out')) where
  abbrev used : Enough l → SameUsed l l.elements l.nodes
  used x = used_back l.session l.elements l.nodes

  abbrev c : Call
  c = Call.event (take 8 bs) (record { out = length out; elements = length l.elements; nodes = length l.nodes })

  abbrev x : Option ℕ
  x = first (refusals (decode b) (going es) (offer bs))

  same_first : first (refusals (decode b) (going es) c) ≡ x
  same_first =
      let h = room_long l.elements l.nodes enough in
      room_enough (decode b) (going es) (take 8 bs) (record { out = length out; elements = length l.elements; nodes = length l.nodes }) wide h.0
      h.1

  abbrev followed : Came Housed → Fed Housed
  followed w = when (eqb w.refusal 0) (and_then (one w) (fed event_at n w.seat (drop 8 bs) (drop (4 * w.listed) w.out))) (one w)

  module _ (a : Answer) (t : Session) (A B out' : List ℕ)
      (is : ◌≡◌ {A = Done} (record { answer = a; session = t; elements = A; nodes = B; out = out' })
      (event l.session (take 8 bs) l.elements l.nodes out)) where
    abbrev done : Done
    done = record { answer = a; session = t; elements = A; nodes = B; out = out' }

    owed : Given o (take 8 bs) l.elements l.nodes out used x done
    owed =
        subst (λ (y : Option ℕ). Given o (take 8 bs) l.elements l.nodes out used y done) same_first
        (subst (Given o (take 8 bs) l.elements l.nodes out used _) (sym is) (event_owed o (take 8 bs) l.elements l.nodes out used))

    still_enough : Enough (housed t A B)
    still_enough =
        let h =
        event_long l.session (take 8 bs) l.elements l.nodes out (record { answer = a; session = t }) A B out' (ap (λ (d : Done). told_of d) is) in
        ap₂ too_small h.0 h.1 ∙ enough

  refused_next :
      (m : ℕ) (t : Session) (A B out' : List ℕ) →
      ◌≡◌ {A = Done} (record { answer = Refused m; session = t; elements = A; nodes = B; out = out' })
      (event l.session (take 8 bs) l.elements l.nodes out) →
      (y : Option ℕ) → x ≡ y → meaning.refused m ≡ answer_if y (yield (decode b) (document es) c) →
      Of b (after_if y (going es) (call_events c)) (left_by l l.elements l.nodes t A B) →
      BlockProgress b es bs (suc n) out (one (record { refusal = m; listed = 0; seat = housed t A B; out = out' }))
  unfolding answer_if after_if yield
  refused_next m t A B out' is none e told-so next = let z : ◌≡◌ {A = ℕ} 0 1 = cc in absurd (omega arith)
  refused_next m t A B out' is (some r) e told-so next =
      let k : m ≡ r = cc in
      let back =
      (same l.session (take 8 bs) l.elements l.nodes out (record { answer = Refused m; session = t }) A B out' (ap (λ (d : Done). told_of d) is)
      ).refused_same m refl in
      let positive : 0 < m = refused_some l.session (take 8 bs) l.elements l.nodes out m (sym (ap (λ (d : Done). d.answer) is)) in
      subst (λ (o' : List ℕ). BlockProgress b es bs (suc n) out (one (record { refusal = m; listed = 0; seat = housed t A B; out = o' })))
      (sym back.1.1.1)
      (refused_progress bs out n long m (e ∙ ap some (sym k)) positive (housed t A B) (still_enough (Refused m) t A B out' is) (stops r)
      (subst (Of b (record { events = es; stopped = stops r })) (left_is l l.elements l.nodes t A B enough) next))

  abbrev news : List ℕ
  news = handed_by (answer (decode b) (going es) c)

  news_small : Nodes news
  news_small i = omega (arith, node_limit_is, handed_within (decode b) (going es) c i, (after_bounded (decode b) (going es) c o.bounds).nodes)

  after_so : after (decode b) (going es) c ≡ after (decode b) (going es) (offer bs)
  unfolding after call_events
  after_so = ap (λ (y : Option ℕ). after_if y (going es) (call_events c)) same_first

  after_none : x ≡ none → after_if none (going es) (call_events c) ≡ after (decode b) (going es) c
  unfolding after
  after_none e = ap (λ (y : Option ℕ). after_if y (going es) (call_events c)) (sym (same_first ∙ e))

  still_going : x ≡ none → after (decode b) (going es) (offer bs) ≡ going (events_by b es bs)
  unfolding after after_if
  still_going e =
      ap (λ (y : Option ℕ). record { events = events_by b es bs; stopped = (after_if y (going es) (call_events (offer bs))).stopped }) e

  taken_next :
      (k : ℕ) (t : Session) (A B out' : List ℕ) →
      ◌≡◌ {A = Done} (record { answer = Taken k; session = t; elements = A; nodes = B; out = out' })
      (event l.session (take 8 bs) l.elements l.nodes out) →
      (y : Option ℕ) → x ≡ y → meaning.taken (nodes_in k out') ≡ answer_if y (yield (decode b) (document es) c) →
      out' ≡ buffer (handed_by (answer_if y (yield (decode b) (document es) c))) out →
      Of b (after_if y (going es) (call_events c)) (left_by l l.elements l.nodes t A B) →
      BlockProgress b es bs (suc n) out
      (and_then (one (record { refusal = 0; listed = k; seat = housed t A B; out = out' }))
      (fed event_at n (housed t A B) (drop 8 bs) (drop (4 * k) out')))
  unfolding answer_if handed_by
  taken_next k t A B out' is (some r) e told-so written next = let z : ◌≡◌ {A = ℕ} 0 1 = cc in absurd (omega arith)
  taken_next k t A B out' is none e told-so written next =
      let given_so : answer (decode b) (going es) c ≡ yield (decode b) (document es) c =
      unfold answer in ap (λ (y : Option ℕ). answer_if y (yield (decode b) (document es) c)) (same_first ∙ e) in
      let is-news : handed_by (yield (decode b) (document es) c) ≡ news = ap handed_by (sym given_so) in
      let many : k ≡ length news =
      sym (length_nodes k out') ∙ ap (λ (a : meaning.Answer). length (handed_by a)) told-so ∙ ap length is-news in
      let filled : out' ≡ buffer news out = written ∙ ap (λ (ns : List ℕ). buffer ns out) is-news in
      let then-so : after_if none (going es) (call_events c) ≡ after (decode b) (going es) (offer bs) = after_none e ∙ after_so in
      let reached : Of b (going (events_by b es bs)) (housed t A B) =
      subst (λ (p : Past). Of b p (housed t A B)) (then-so ∙ still_going e)
      (subst (Of b (after_if none (going es) (call_events c))) (left_is l l.elements l.nodes t A B enough) next) in
      subst
      (λ (w : Came Housed).
      BlockProgress b es bs (suc n) out (and_then (one w) (fed event_at n (housed t A B) (drop 8 bs) (drop (4 * w.listed) w.out))))
      (sym (λ i. record { refusal = 0; listed = many i; seat = housed t A B; out = filled i }))
      (taken_progress bs out n long e (housed t A B) reached news
      (call_listed (decode b) (going es) c ∙ ap (λ (p : Past). listed (decode b) (document p.events)) after_so) news_small _
      (rest (events_by b es bs) (housed t A B) (drop (4 * length news) (buffer news out)) reached (still_enough (Taken k) t A B out' is)))

  next_progress :
      (a : Answer) (t : Session) (A B out' : List ℕ) →
      ◌≡◌ {A = Done} (record { answer = a; session = t; elements = A; nodes = B; out = out' })
      (event l.session (take 8 bs) l.elements l.nodes out) →
      BlockProgress b es bs (suc n) out (followed (came_as (record { answer = a; session = t; elements = A; nodes = B; out = out' })))
  unfolding refusal_of listed_of told
  next_progress (Refused m) t A B out' is =
      let w = owed (Refused m) t A B out' is in
      let positive : 0 < m = refused_some l.session (take 8 bs) l.elements l.nodes out m (sym (ap (λ (d : Done). d.answer) is)) in
      subst (BlockProgress b es bs (suc n) out) (sym (when_false (eqb m 0) _ _ (ne_eqb m 0 (λ z. omega arith))))
      (refused_next m t A B out' is x refl w.answered w.next)
  next_progress (Taken k) t A B out' is =
      let w = owed (Taken k) t A B out' is in
      subst (BlockProgress b es bs (suc n) out) (sym (when_true true _ _ refl))
      (taken_next k t A B out' is x refl w.answered w.written w.next)

pub fed_progress :
    {b : List ℕ} {es : List Stream.Event} {l : Housed} (n : ℕ) (bs out : List ℕ) → Of b (going es) l → Enough l → 8 * n ≤ length bs →
    BlockProgress b es bs n out (fed event_at n l bs out)
unfolding fed event_at
fed_progress zero bs out o e h = none_progress bs out 0 (λ p w. omega arith) e o
fed_progress {b} {es} {l} (suc n) bs out o e h =
    when_known (BlockProgress b es bs (suc n) out) (ltb (length out) output_needed) _ _
    (λ t. none_progress bs out (suc n) (λ p w. omega (arith, ltb-true (length out) output_needed t)) e o)
    (λ t.
    next_progress o e n bs out h (ltb-false (length out) output_needed t)
    (λ es' l' out' o' e'. fed_progress n (drop 8 bs) out' o' e' (omega (arith, length-drop 8 bs)))
    (event l.session (take 8 bs) l.elements l.nodes out).answer _ _ _ _ refl)

-- TWO BLOCKS ONE AFTER THE OTHER ARE ONE STREAM

abbrev pub block_fed : Housed → List ℕ → List ℕ → Fed Housed
block_fed l bs out = fed event_at (length bs / 8) l bs out

pub then_fed :
    {b : List ℕ} {es : List Stream.Event} {bs : List ℕ} {l : Housed} {t : ℕ} {ns : List ℕ} → Progress b es bs l t 0 ns → Enough l → (rest out : List ℕ) →
    rest ≡ drop (8 * t) bs →
    Progress b es bs (block_fed l rest out).seat (t + (block_fed l rest out).taken) (block_fed l rest out).refusal
    (ns ++ nodes_in (block_fed l rest out).listed (block_fed l rest out).out)
then_fed {b} {l = l} o enough rest out e =
    let f : Fed Housed = block_fed l rest out in
    progress_then o
    (subst (λ (x : List ℕ). Progress b o.events x f.seat f.taken f.refusal (nodes_in f.listed f.out)) e
    (fed_progress (length rest / 8) rest out (progress_going o) enough (omega arith)).offered)

pub fed_fed :
    {b : List ℕ} {es : List Stream.Event} {l : Housed} (bs out out' : List ℕ) → Of b (going es) l → Enough l → (f : Fed Housed) → f ≡ block_fed l bs out →
    f.refusal ≡ 0 → (g : Fed Housed) → g ≡ block_fed f.seat (drop (8 * f.taken) bs) out' →
    Progress b es bs g.seat (f.taken + g.taken) g.refusal (nodes_in f.listed f.out ++ nodes_in g.listed g.out)
fed_fed {b} {es} {l} bs out out' o enough f ef z g eg =
    let whole : BlockProgress b es bs (length bs / 8) out f =
    subst (BlockProgress b es bs (length bs / 8) out) (sym ef) (fed_progress (length bs / 8) bs out o enough (omega arith)) in
    let unrefused : Progress b es bs f.seat f.taken 0 (nodes_in f.listed f.out) =
    subst (λ (r : ℕ). Progress b es bs f.seat f.taken r (nodes_in f.listed f.out)) z whole.offered in
    subst
    (λ (x : Fed Housed). Progress b es bs x.seat (f.taken + x.taken) x.refusal (nodes_in f.listed f.out ++ nodes_in x.listed x.out))
    (sym eg) (then_fed unrefused whole.enough (drop (8 * f.taken) bs) out' refl)
