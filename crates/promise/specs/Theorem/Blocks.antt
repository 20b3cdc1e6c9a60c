-- The proof of the block's promise: what `run` gives is what single offers of its whole records come to.
--
--   Singly l n es E N out f     f is what single offers of the first n records of es come to, on the session of l lent E and N, and with the buffer out
--   fed_singly              what session promises of a block is that, on a session that calls reach
--   played_append           one play after another;  first_part: a first part of a play;  reached_by: a play from the same begin
--   block                   THE BLOCK is as promised;  run_some: it has a result;  use_some: a sequence of uses goes on
--
-- Assumes nothing.
use Prim.Native.Nat.{ℕ, zero, suc, ◌+◌, ◌-◌, ◌*◌, ◌/◌, ◌≤◌, ◌<◌}
use Rattle.std.proofs.Common.{arith, ◌∙◌, drop-drop, ne_eqb, ltb-true, ltb-false, le-ltb}
use Rattle.std.specs.Prelude.{◌⊎◌, ◌≡◌, Bool, eqb, ltb, take}
use Rattle.std.proofs.Math.Logic.{inl, inr}
use Rattle.std.proofs.Math.Path.{refl, sym, ap, ap₂, subst}
use Rattle.std.proofs.Math.Bool.{true, false}
use mathlib.Core.List.{List, [], ◌∷◌, ◌++◌, map, append_assoc}
use mir.Val.{bool_byte}
use Rattle.std.proofs.Math.ListN.{length, drop, length-append, length-drop}
use Rattle.choice.specs.When.{when, when_true, when_false, when_known, when_either}
use Rattle.choice.specs.Count.{positive}
use Rattle.meaning.specs.Limits.{output_needed}
use Rattle.meaning.specs.Refusals.{short_room}
use Rattle.meaning.specs.Answer as meaning
use Rattle.meaning.specs.Answer.{Call, Past, too_small, answer, handed_by, handed_out}
use Rattle.limits.specs.Number.{fault_of}
use Rattle.limits.specs.Number.Laws.{refusal_at}
use Rattle.query.specs.Decode.{decode}
use Rattle.records.specs.Write.{records_of, nodes_in}
use Rattle.records.proofs.Write.Laws.{length_records, records_append, length_nodes}
use Rattle.feed.specs.Fed.{Came, Fed, none, one, and_then, fed}
use Rattle.session.specs.declared.Session.{Session}
use Rattle.session.specs.declared.Next.{Next}
use Rattle.session.specs.declared.Answer.{Answer}
use Rattle.session.specs.declared.Answer.TheVariants.{Refused, Taken}
use Rattle.session.specs.declared.Ran.{Ran}
use Rattle.session.specs.Event.{Done, settled, told_of, event, EventGives}
use Rattle.session.specs.Event.Laws.{answer_refused, event_cases}
use Rattle.session.specs.Run.{Housed, housed, refusal_of, listed_of, came_as, event_at, ran, RunGives}
use Rattle.session.specs.Told.{told}
use Rattle.promise.specs.Lending.{SameUsed, left_by}
use Rattle.promise.specs.Promise.{Of}
use Rattle.promise.specs.Promise.Event.{event_of_lem, event_answered, event_written}
use Rattle.promise.specs.Theorem as theorem
use Rattle.promise.specs.Theorem.{Use, offer, Reply, stepped, Played, unused, by_event, by_finish, Reached, answer_of, records_by, nodes_of}
use Rattle.promise.specs.Theorem.{Offered, no_more, one_more, Answered, all_taken, then_refused, one_taken}
use Rattle.promise.specs.Theorem.Short.{event_known}
use Rattle.promise.specs.Theorem.Replies.{told_records, reached_kept, event_taken, event_long, same}

record Singly (l : Housed) (n : ℕ) (es E N out : List ℕ) (f : Fed Housed) : Type 0 where
  offers : List Use
  replies : List Reply
  left : Housed
  same_session : left.session ≡ f.seat.session
  played : Played l offers replies left
  goes_on : too_small (length E) (length N) ≡ false → SameUsed left f.seat.elements f.seat.nodes
  offered : Offered es E N out offers replies f.seat.elements f.seat.nodes
  answered : Answered f.taken f.refusal (map answer_of replies)
  listed : f.listed ≡ length (nodes_of replies)
  written : f.out ≡ records_of (nodes_of replies) ++ drop (4 * f.listed) out
  ends : f.refusal ≡ 0 → (f.taken ≡ n) ⊎ (length out < 4 * f.listed + output_needed)

-- no event is looked at
none_singly :
    (l : Housed) (n : ℕ) (es E N out : List ℕ) → (too_small (length E) (length N) ≡ false → SameUsed l E N) →
    (0 ≡ n) ⊎ (length out < 0 + output_needed) → Singly l n es E N out (none (housed l.session E N) out)
unfolding handed_out records_of
none_singly l n es E N out used why =
    record {
      offers = [];
      replies = [];
      left = l;
      same_session = refl;
      played = unused;
      goes_on = used;
      offered = no_more;
      answered = all_taken;
      listed = refl;
      written = refl;
      ends = λ z. why;
    }

-- room that was just given back has the records in use
pub used_back : (s : Session) (A B : List ℕ) → SameUsed (housed s A B) A B
used_back s A B = record { elements = refl; nodes = refl }

-- room that was enough is what is left
pub left_is : (l : Housed) (E N : List ℕ) (t : Session) (A B : List ℕ) → too_small (length E) (length N) ≡ false → left_by l E N t A B ≡ housed t A B
unfolding left_by
left_is l E N t A B enough = when_false (too_small (length E) (length N)) _ (housed t A B) enough

-- a refusal has a number
pub refused_some : (s : Session) (bytes E N out : List ℕ) (x : ℕ) → (event s bytes E N out).answer ≡ Refused x → 0 < x
unfolding event settled
refused_some s bytes E N out x e = positive x (answer_refused _ _ x e).1

-- an event that is taken was lent enough
taken_enough :
    (s : Session) (bytes E N out : List ℕ) (k : ℕ) → output_needed ≤ length out → (event s bytes E N out).answer ≡ Taken k →
    too_small (length E) (length N) ≡ false
taken_enough s bytes E N out k wide e = by (too_small (length E) (length N)) refl
  where
    by : (x : Bool) → too_small (length E) (length N) ≡ x → x ≡ false
    by false t = refl
    by true t =
        let short : (event s bytes E N out).answer ≡ Refused short_room =
        ap (λ (d : Done). d.answer)
        (event_cases s bytes E N out
        ∙ when_false (ltb (length out) output_needed) _ _ (le-ltb (length out) output_needed wide)
        ∙ when_true (too_small (length E) (length N)) _ _ t) in
        let z : ◌≡◌ {A = ℕ} 0 1 = cc in absurd (omega arith)

module _ {b : List ℕ} {p : Past} {l : Housed} (o : Of b p l) (n : ℕ) (es E N out : List ℕ)
    (used : too_small (length E) (length N) ≡ false → SameUsed l E N) (whole : 8 ≤ length es) (wide : output_needed ≤ length out)
    (t : Session) (A B out' : List ℕ) where
  abbrev came : Answer → Came Housed
  came a = record { refusal = refusal_of a; listed = listed_of a; seat = housed t A B; out = out' }

  refused_singly :
      (x : ℕ) → 0 < x → EventGives l.session (take 8 es) E N out (record { answer = Refused x; session = t }) A B out' →
      Singly l (suc n) es E N out (one (came (Refused x)))
  unfolding answer_of told handed_out handed_by records_of refusal_of listed_of left_by
  refused_singly x some g =
      let r : Next = record { answer = Refused x; session = t } in
      let back = (same l.session (take 8 es) E N out r A B out' g).refused_same x refl in
      record {
        offers = offer (take 8 es) E N out ∷ [];
        replies = stepped r A B out' ∷ [];
        left = left_by l E N t A B;
        same_session = when_either (λ (k : Housed). k.session ≡ t) (too_small (length E) (length N)) _ _ refl refl;
        played = by_event {r = r} used g unused;
        goes_on =
            λ f. subst (λ (k : Housed). SameUsed k A B) (sym (left_is l E N t A B f)) (used_back t A B);
        offered = one_more {r = r} whole wide no_more;
        answered = subst (λ k. Answered k x (meaning.refused x ∷ [])) (sym (none_taken x some)) (then_refused some);
        listed = refl;
        written = back.1.1.1;
        ends = λ z. absurd (omega arith);
      }
    where
      none_taken : (x : ℕ) → 0 < x → bool_byte (eqb x 0) ≡ 0
      none_taken x h = ap bool_byte (ne_eqb x 0 (λ z. omega arith))

  module _ (k : ℕ) (g : EventGives l.session (take 8 es) E N out (record { answer = Taken k; session = t }) A B out')
      (enough : too_small (length E) (length N) ≡ false) (f : Fed Housed) (rest : Singly (housed t A B) n (drop 8 es) A B (drop (4 * k) out') f) where
    abbrev r : Next
    r = record { answer = Taken k; session = t }

    abbrev ns : List ℕ
    ns = nodes_in k out'

    abbrev c : Call
    c = Call.event (take 8 es) (record { out = length out; elements = length E; nodes = length N })

    -- what is written behind what is written
    behind : drop (4 * f.listed) (drop (4 * k) out') ≡ drop (4 * (k + f.listed)) out
    behind =
        let m : 4 * k + 4 * f.listed ≡ 4 * (k + f.listed) = omega arith in
        ap (drop (4 * f.listed)) (event_taken o (take 8 es) E N out A B out' r k used g refl)
        ∙ drop-drop (4 * f.listed) (4 * k) out
        ∙ ap (λ (i : ℕ). drop i out) m

    first : take (4 * k) out' ≡ records_of ns
    unfolding told records_by handed_by
    first =
        let e : meaning.taken ns ≡ answer (decode b) p c = event_answered o (take 8 es) E N out used r A B out' g in
        told_records (Taken k) (answer (decode b) p c) out out' e (event_written o (take 8 es) E N out used r A B out' g)
        ∙ ap (λ (a : meaning.Answer). records_of (handed_by a)) (sym e)

    first_long : length (records_by (Taken k) out') ≡ 4 * k
    unfolding records_by
    first_long = ap length first ∙ length_records ns ∙ ap (λ (m : ℕ). 4 * m) (length_nodes k out')

    still_enough : too_small (length A) (length B) ≡ false
    still_enough =
        let long = event_long l.session (take 8 es) E N out r A B out' g in
        ap₂ too_small long.0 long.1 ∙ enough

    taken_singly : Singly l (suc n) es E N out (and_then (one (came (Taken k))) f)
    unfolding and_then answer_of told handed_out handed_by refusal_of listed_of
    taken_singly =
        let left : length (drop (4 * k) out') ≡ length out - 4 * k =
        ap length (event_taken o (take 8 es) E N out A B out' r k used g refl) ∙ length-drop (4 * k) out in
        record {
          offers = offer (take 8 es) E N out ∷ rest.offers;
          replies = stepped r A B out' ∷ rest.replies;
          left = rest.left;
          same_session = rest.same_session;
          played =
              by_event {r = r} used g
              (subst (λ (m : Housed). Played m rest.offers rest.replies rest.left) (sym (left_is l E N t A B enough)) rest.played);
          goes_on = λ e. rest.goes_on still_enough;
          offered =
              one_more {r = r} whole wide
              (subst (λ (m : ℕ). Offered (drop 8 es) A B (drop m out') rest.offers rest.replies f.seat.elements f.seat.nodes)
              (sym first_long) rest.offered);
          answered = subst (λ (m : ℕ). Answered m f.refusal (meaning.taken ns ∷ map answer_of rest.replies)) (omega arith) (one_taken rest.answered);
          listed = omega (arith, rest.listed, length-append ns (nodes_of rest.replies), length_nodes k out');
          written =
              ap₂ ◌++◌ first rest.written
              ∙ ap (λ (m : List ℕ). records_of ns ++ (records_of (nodes_of rest.replies) ++ m)) behind
              ∙ sym (append_assoc (records_of ns) (records_of (nodes_of rest.replies)) _)
              ∙ ap (◌++ drop (4 * (k + f.listed)) out) (sym (records_append ns (nodes_of rest.replies)));
          ends = λ z. later (rest.ends z) left;
        }
      where
        later : (f.taken ≡ n) ⊎ (length (drop (4 * k) out') < 4 * f.listed + output_needed) → length (drop (4 * k) out') ≡ length out - 4 * k →
            (1 + f.taken ≡ suc n) ⊎ (length out < 4 * (k + f.listed) + output_needed)
        later (inl e) h = inl (omega arith)
        later (inr e) h = inr (omega arith)

-- one event, and then the rest
module _ (n : ℕ) {b : List ℕ}
    (rest : (p : Past) (l : Housed) → Of b p l → (es E N out : List ℕ) → (too_small (length E) (length N) ≡ false → SameUsed l E N) →
    8 * n ≤ length es → Singly l n es E N out (fed event_at n (housed l.session E N) es out))
    {p : Past} {l : Housed} (o : Of b p l) (es E N out : List ℕ) (used : too_small (length E) (length N) ≡ false → SameUsed l E N)
    (whole : 8 * suc n ≤ length es) (wide : output_needed ≤ length out) where
  abbrev followed : Came Housed → Fed Housed
  followed c = when (eqb c.refusal 0) (and_then (one c) (fed event_at n c.seat (drop 8 es) (drop (4 * c.listed) c.out))) (one c)

  one_singly :
      (a : Answer) (t : Session) (A B out' : List ℕ) →
      ◌≡◌ {A = Done} (record { answer = a; session = t; elements = A; nodes = B; out = out' }) (event l.session (take 8 es) E N out) →
      Singly l (suc n) es E N out (followed (came_as (record { answer = a; session = t; elements = A; nodes = B; out = out' })))
  unfolding refusal_of listed_of
  one_singly (Refused x) t A B out' e =
      let some : 0 < x = refused_some l.session (take 8 es) E N out x (sym (ap (λ (d : Done). d.answer) e)) in
      subst (Singly l (suc n) es E N out)
      (sym (when_false (eqb x 0) _ _ (ne_eqb x 0 (λ z. omega arith))))
      (refused_singly o n es E N out used (omega arith) wide t A B out' x some (ap (λ (d : Done). told_of d) e))
  one_singly (Taken k) t A B out' e =
      let g : EventGives l.session (take 8 es) E N out (record { answer = Taken k; session = t }) A B out' = ap (λ (d : Done). told_of d) e in
      let enough : too_small (length E) (length N) ≡ false =
      taken_enough l.session (take 8 es) E N out k wide (sym (ap (λ (d : Done). d.answer) e)) in
      subst (Singly l (suc n) es E N out) (sym (when_true true _ _ refl))
      (taken_singly o n es E N out used (omega arith) wide t A B out' k g enough (fed event_at n (housed t A B) (drop 8 es) (drop (4 * k) out'))
      (rest _ (housed t A B)
      (subst (Of b _) (left_is l E N t A B enough)
      (event_of_lem o (take 8 es) E N out used (record { answer = Taken k; session = t }) A B out' g))
      (drop 8 es) A B (drop (4 * k) out') (λ x. used_back t A B) (omega (arith, length-drop 8 es))))

fed_singly :
    (n : ℕ) {b : List ℕ} {p : Past} {l : Housed} → Of b p l → (es E N out : List ℕ) → (too_small (length E) (length N) ≡ false → SameUsed l E N) →
    8 * n ≤ length es → Singly l n es E N out (fed event_at n (housed l.session E N) es out)
unfolding fed event_at
fed_singly zero {l = l} o es E N out used h = none_singly l zero es E N out used (inl refl)
fed_singly (suc n) {b} {p} {l} o es E N out used h =
    when_known (Singly l (suc n) es E N out) (ltb (length out) output_needed) _ _
    (λ t. none_singly l (suc n) es E N out used (inr (omega (arith, ltb-true (length out) output_needed t))))
    (λ t.
    one_singly n (λ past m x es' A B out' u k. fed_singly n {p = past} {l = m} x es' A B out' u k) o es E N out used h
    (ltb-false (length out) output_needed t) (event l.session (take 8 es) E N out).answer _ _ _ _ refl)

pub played_append :
    {l k m : Housed} {us us' : List Use} {rs rs' : List Reply} → Played l us rs k → Played k us' rs' m → Played l (us ++ us') (rs ++ rs') m
played_append unused q = q
played_append (by_event u g p) q = by_event u g (played_append p q)
played_append (by_finish g p) q = by_finish g (played_append p q)

played_split :
    (us us' : List Use) {rs : List Reply} {l m : Housed} → Played l (us ++ us') rs m →
    (rs₁ : List Reply) × (rs₂ : List Reply) × (k : Housed) × Played l us rs₁ k × Played k us' rs₂ m × (rs ≡ rs₁ ++ rs₂)
played_split [] us' {rs} {l} p = ([], rs, l, unused, p, refl)
played_split (u ∷ us) us' (by_event {E' = E'} {N' = N'} {out' = out'} {r = r} h g p) =
    let x = played_split us us' p in
    (stepped r E' N' out' ∷ x.0, x.1, x.2, by_event h g x.3, x.4, ap (λ (m : List Reply). stepped r E' N' out' ∷ m) x.5)
played_split (u ∷ us) us' (by_finish {f = f} g p) =
    let x = played_split us us' p in (theorem.finish f ∷ x.0, x.1, x.2, by_finish g x.3, x.4, ap (λ (m : List Reply). theorem.finish f ∷ m) x.5)

-- with other uses, replies and what they lead to
pub reached_by :
    {b : List ℕ} {us us' : List Use} {rs rs' : List Reply} {l k : Housed} (x : Reached b us rs l) →
    Played (housed x.begun.session x.E x.N) us' rs' k →
    Reached b us' rs' k
reached_by x p = record { bytes = x.bytes; E = x.E; N = x.N; begun = x.begun; begins = x.begins; admitted = x.admitted; played = p }

pub first_part :
    {b : List ℕ} (us us' : List Use) {rs : List Reply} {l : Housed} → Reached b (us ++ us') rs l →
    (rs₁ : List Reply) × (rs₂ : List Reply) × (k : Housed) × Reached b us rs₁ k × Played k us' rs₂ l × (rs ≡ rs₁ ++ rs₂)
first_part us us' x = let p = played_split us us' x.played in (p.0, p.1, p.2, reached_by x p.3, p.4, p.5)

-- the refusal with which a block ends is one that the code's enum has

abbrev Ends : Fed Housed → Type 0
Ends f = fault_of (refusal_at f.refusal) ≡ f.refusal

none_ends : (l : Housed) (out : List ℕ) → Ends (none l out)
unfolding refusal_at
none_ends l out = refl

answer_ends : (s : Session) (bytes E N out : List ℕ) (a : Answer) → (event s bytes E N out).answer ≡ a → fault_of (refusal_at (refusal_of a)) ≡ refusal_of a
unfolding refusal_of refusal_at
answer_ends s bytes E N out (Refused n) e = event_known s bytes E N out n e
answer_ends s bytes E N out (Taken k) e = refl

fed_ends : (n : ℕ) (l : Housed) (es out : List ℕ) → Ends (fed event_at n l es out)
unfolding fed event_at and_then
fed_ends zero l es out = none_ends l out
fed_ends (suc n) l es out =
    let d : Done = event l.session (take 8 es) l.elements l.nodes out in
    let c : Came Housed = came_as d in
    when_either Ends (ltb (length out) output_needed) _ _ (none_ends l out)
    (when_either Ends (eqb c.refusal 0) _ _ (fed_ends n c.seat (drop 8 es) (drop (4 * c.listed) c.out))
    (answer_ends l.session (take 8 es) l.elements l.nodes out d.answer refl))

pub run_some :
    (s : Session) (es E N out : List ℕ) → (r : Ran) × (A : List ℕ) × (B : List ℕ) × (out' : List ℕ) × RunGives s es E N out r A B out'
run_some s es E N out =
    let f = fed event_at (length es / 8) (housed s E N) es out in (
      record { session = f.seat.session; taken = f.taken; listed = f.listed; refusal = refusal_at f.refusal },
      f.seat.elements,
      f.seat.nodes,
      f.out,
      ap (λ (n : ℕ). record { seat = f.seat; taken = f.taken; listed = f.listed; refusal = n; out = f.out })
          (fed_ends (length es / 8) (housed s E N) es out),
    )

-- one use more
pub use_some :
    {b : List ℕ} {us : List Use} {rs : List Reply} {l : Housed} → Reached b us rs l → (bytes E N out : List ℕ) →
    (too_small (length E) (length N) ≡ false → SameUsed l E N) →
    (r : Reply) × (k : Housed) × Reached b (us ++ (offer bytes E N out ∷ [])) (rs ++ (r ∷ [])) k
use_some {l = l} x bytes E N out used =
    let d = event l.session bytes E N out in
    let r : Next = record { answer = d.answer; session = d.session } in (
      stepped r d.elements d.nodes d.out,
      left_by l E N d.session d.elements d.nodes,
      reached_by x (played_append x.played (by_event {r = r} used refl unused)),
    )

pub block :
    {b : List ℕ} {us : List Use} {rs : List Reply} {l : Housed} → Reached b us rs l → (es E N out : List ℕ) →
    (too_small (length E) (length N) ≡ false → SameUsed l E N) → (r : Ran) (A B out' : List ℕ) → RunGives l.session es E N out r A B out' →
    theorem.Block b us rs l es E N out r A B out'
block {b} {us} {rs} {l} x es E N out used r A B out' g =
    let p : Singly l (length es / 8) es E N out (ran r A B out') =
    subst (Singly l (length es / 8) es E N out) (sym g) (fed_singly (length es / 8) (reached_kept x).of es E N out used (omega arith)) in
    record {
      offers = p.offers;
      replies = p.replies;
      left = p.left;
      played = p.played;
      same_session = p.same_session;
      reached = reached_by x (played_append x.played p.played);
      goes_on = p.goes_on;
      offered = p.offered;
      answered = p.answered;
      listed = p.listed;
      written = p.written;
      ends = λ z. at_end (p.ends (ap fault_of z));
    }
  where
    at_end : (r.taken ≡ length es / 8) ⊎ (length out < 4 * r.listed + output_needed) →
        (length es < 8 * r.taken + 8) ⊎ (length out < 4 * r.listed + output_needed)
    at_end (inl e) = inl (omega arith)
    at_end (inr h) = inr h
