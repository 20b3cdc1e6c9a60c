-- That a block is single events, and that the promise of run allows one result.
--
--   seen s A B t                        what an event is taken at, by what a step is: A and B are the bytes past the needed ones
--   steps_alike                         an event on it is a step
--   run_few, run_short, run_small       no whole record; refusal 1 would come; refusal 15
--   run_parts                           any other block, by the parts of the room that were lent on
--   run_within_lem                          a block on the room that is needed, by what feed gives
--   run_one                             two results that the promise allows are equal, and so is all that was lent
--
-- What is large is given explicitly. Assumes nothing.
use Prim.Native.Nat.{ℕ, zero, suc, ◌*◌, ◌/◌, ◌≤◌, ◌<◌}
use native.Mathlib.Omega.{arith}
use Rattle.std.specs.Prelude.{◌≡◌, Bool, true, false, List, ◌++◌, Option, Some, None, eqb, take}
use Rattle.std.proofs.Math.Path.{refl, sym, ap, ap₂}
use Rattle.std.proofs.Common.{◌∙◌, take-append-drop, length-take-le, eqb-true, ne_eqb, lt-ltb, le-ltb}
use Rattle.std.proofs.Math.ListN.{length, drop}
use Rattle.std.proofs.lemmas.Bool.{eqb-false}
use Rattle.choice.specs.When.{when, when_true, when_false, when_yes, when_no}
use Rattle.choice.specs.Count.{bool_byte_le}
use Rattle.meaning.specs.Refusals.{short_room}
use Rattle.meaning.specs.Answer.{too_small}
use Rattle.meaning.specs.Limits.{output_needed, elements_needed, nodes_needed}
use Rattle.limits.specs.declared.Refusal.{Refusal}
use Rattle.limits.specs.declared.Refusal.TheVariants.{ShortRoom}
use Rattle.limits.specs.Number.{number, fault_of}
use Rattle.limits.specs.Number.Laws.{some_number, number_one, fault_one}
use Rattle.numbers.specs.Numbers.{Numbers}
use Rattle.plan.specs.Plan.{Plan}
use Rattle.plan_bytes.specs.Kept.{kept_in}
use Rattle.feed.specs.Fed.{Came, Fed, one, and_then, fed}
use Rattle.feed.specs.Fed.Across.{across, all_across, Alike, fed_across}
use Rattle.feed.specs.Steps.{Seat, seat, step_at, Whole}
use Rattle.feed.specs.Steps.Laws.{refused_at_lem, whole_step}
use Rattle.offer.specs.Offer.{longer, offered}
use Rattle.offer.specs.Offer.Laws.{offered_long}
use Rattle.session.specs.declared.Session.{Session}
use Rattle.session.specs.declared.Answer.TheVariants.{Refused, Taken}
use Rattle.session.specs.declared.Ran.{Ran}
use Rattle.session.specs.Event.{Done, session_numbers, with_numbers, answer_by, settled, event}
use Rattle.session.specs.Event.Laws.{there, again, event_cases}
use Rattle.lent.specs.Lent.{refuse_room}
use Rattle.lent.specs.Lent.Laws.{room_short}
use Rattle.session.specs.Run.{Housed, housed, refusal_of, listed_of, came_as, event_at, ran, run_within, RunGives}

-- an event's answer says what it came to

refusal_by : (b : Bool) (c : Came Seat) → eqb c.refusal 0 ≡ b → refusal_of (when b (Taken c.listed) (Refused c.refusal)) ≡ c.refusal
unfolding when refusal_of
refusal_by true c e = sym (eqb-true _ _ e)
refusal_by false c e = refl

listed_by :
    (b : Bool) (c : Came Seat) → eqb c.refusal 0 ≡ b → ((c.refusal ≡ 0 → ⊥) → c.listed ≡ 0) →
    listed_of (when b (Taken c.listed) (Refused c.refusal)) ≡ c.listed
unfolding when listed_of
listed_by true c e none = refl
listed_by false c e none = sym (none (eqb-false _ _ e))

-- an event on what is seen is a step

abbrev seen : Session → List ℕ → List ℕ → Seat → Housed
seen s A B t = housed (with_numbers s t.numbers) (t.elements ++ A) (t.nodes ++ B)

module _ (s : Session) (A B : List ℕ) (t : Seat) (bytes out : List ℕ) (w : Whole t) where
  abbrev P : Plan
  P = kept_in s.kept

  abbrev now : Session
  now = with_numbers s t.numbers

  settled_is :
      (c : Came Seat) → ((c.refusal ≡ 0 → ⊥) → c.listed ≡ 0) → came_as (settled now (across (longer A B) c)) ≡ across (seen s A B) c
  unfolding settled answer_by
  settled_is c none =
      ap₂ (λ (r l : ℕ). record { refusal = r; listed = l; seat = seen s A B c.seat; out = c.out }) (refusal_by (eqb c.refusal 0) c refl)
      (listed_by (eqb c.refusal 0) c refl none)

  event_seen : output_needed ≤ length out → event_at (seen s A B t) bytes out ≡ across (seen s A B) (step_at P t bytes out)
  unfolding event_at event
  event_seen h =
      ap (λ (n : Numbers). came_as (settled now (offered P (seat n (t.elements ++ A) (t.nodes ++ B)) bytes out))) (there s t.numbers w.said)
      ∙ ap (λ (c : Came Seat). came_as (settled now c)) (offered_long P t A B bytes out w.elements w.nodes h)
      ∙ settled_is (step_at P t bytes out) (λ f. ap (λ (c : Came Seat). c.listed) (refused_at_lem P t bytes out f))

module _ (s : Session) (A B : List ℕ) where
  steps_alike : Alike (seen s A B) event_at (step_at (kept_in s.kept)) Whole
  steps_alike =
      record {
        stays = λ t bytes out w. whole_step (kept_in s.kept) t bytes out w;
        same = λ t bytes out w h. event_seen s A B t bytes out w h;
      }

  block_seen :
      (n : ℕ) (t : Seat) (es out : List ℕ) → Whole t →
      fed event_at n (seen s A B t) es out ≡ all_across (seen s A B) (fed (step_at (kept_in s.kept)) n t es out)
  block_seen = fed_across (seen s A B) event_at (step_at (kept_in s.kept)) Whole steps_alike

-- no event is looked at, or the first is refused for want of room

abbrev stayed : Session → Option Refusal → Ran
stayed s refusal = record { session = s; taken = 0; listed = 0; refusal = refusal }

module _ (s : Session) (es E N out : List ℕ) where
  abbrev Gives : Ran → Type 0
  Gives r = RunGives s es E N out r E N out × ((8 * r.taken ≤ length es) × (4 * r.listed ≤ length out))

  still : (refusal : Option Refusal) (r : Ran) → r ≡ stayed s refusal → RunGives s es E N out (stayed s refusal) E N out → Gives r
  still refusal r e h = (
    ap (λ (x : Ran). ran x E N out) e ∙ h,
    (omega (arith, ap (λ (x : Ran). x.taken) e), omega (arith, ap (λ (x : Ran). x.listed) e)),
  )

  pub run_few : (r : Ran) → r ≡ stayed s None → length es < 8 → Gives r
  unfolding fed
  run_few r e h = still None r e (ap (λ (n : ℕ). fed event_at n (housed s E N) es out) (sym few))
    where
      few : length es / 8 ≡ 0
      few = omega arith

  short : (n : ℕ) → length out < output_needed → ran (stayed s None) E N out ≡ fed event_at n (housed s E N) es out
  unfolding fed
  short zero h = refl
  short (suc n) h = when_yes _ _ _ _ (lt-ltb _ _ h) refl

  pub run_short : (r : Ran) → r ≡ stayed s None → length out < output_needed → Gives r
  run_short r e h = still None r e (short (length es / 8) h)

  -- "15 comes directly after 1 and before all others"
  small_event :
      (bytes : List ℕ) → output_needed ≤ length out → too_small (length E) (length N) ≡ true →
      event_at (housed s E N) bytes out ≡ record { refusal = short_room; listed = 0; seat = housed s E N; out = out }
  unfolding event_at refusal_of listed_of
  small_event bytes h k = ap (λ (d : Done). came_as d) (event_cases s bytes E N out ∙ when_false _ _ _ (le-ltb _ _ h) ∙ when_true _ _ _ k)

  small :
      (n : ℕ) → 0 < n → output_needed ≤ length out → too_small (length E) (length N) ≡ true →
      ran (stayed s (Some ShortRoom)) E N out ≡ fed event_at n (housed s E N) es out
  unfolding fed
  small zero l h k = absurd (omega arith)
  small (suc n) l h k =
      when_no _ _ _ _ (le-ltb _ _ h)
      (sym (ap (λ (c : Came Housed). when (eqb c.refusal 0)
      (and_then (one c) (fed event_at n c.seat (drop 8 es) (drop (4 * c.listed) c.out))) (one c)) (small_event (take 8 es) h k)
      ∙ when_false _ _ _ (ne_eqb short_room 0 (λ z. omega arith))))

  pub run_small :
      (refusal : Refusal) (r : Ran) → r ≡ stayed s (Some refusal) → number refusal ≡ refuse_room (length E) (length N) → 8 ≤ length es →
      output_needed ≤ length out → Gives r
  run_small refusal r e k l h =
      let p = room_short (length E) (length N) (number refusal) k (λ z. omega (arith, some_number refusal)) in
      still (Some ShortRoom) r (e ∙ ap (λ (f : Refusal). stayed s (Some f)) (number_one refusal ShortRoom p.0)) (small (length es / 8) (omega arith) h p.1)

-- any other block: k and l are how long the parts of the room are that were lent on

whole_at_lem : (s : Session) (E N : List ℕ) → length E ≡ elements_needed → length N ≡ nodes_needed → Whole (seat (session_numbers s) E N)
whole_at_lem s E N e f = record { elements = e; nodes = f; said = record { ended = bool_byte_le s.ended; stopped = bool_byte_le s.stopped } }

module _ (s : Session) (es E N out : List ℕ) (k l : ℕ) (ek : elements_needed ≡ k) (el : nodes_needed ≡ l) (longE : k ≤ length E) (longN : l ≤ length N) where
  start_is : housed s E N ≡ seen s (drop k E) (drop l N) (seat (session_numbers s) (take k E) (take l N))
  start_is = λ i. housed (sym (again s) i) (sym (take-append-drop k E) i) (sym (take-append-drop l N) i)

  wide : Whole (seat (session_numbers s) (take k E) (take l N))
  wide = whole_at_lem s (take k E) (take l N) (length-take-le k E longE ∙ sym ek) (length-take-le l N longN ∙ sym el)

  pub run_parts :
      (r : Ran) (A B out' : List ℕ) → ran r A B out' ≡ run_within s es (take k E) (take l N) out →
      RunGives s es E N out r (A ++ drop k E) (B ++ drop l N) out'
  unfolding run_within
  run_parts r A B out' e =
      ap (λ (f : Fed Housed). record {
        seat = housed f.seat.session (f.seat.elements ++ drop k E) (f.seat.nodes ++ drop l N);
        taken = f.taken;
        listed = f.listed;
        refusal = f.refusal;
        out = f.out;
      }) e
      ∙ sym (ap (λ (x : Housed). fed event_at (length es / 8) x es out) start_is ∙ block_seen s (drop k E) (drop l N) (length es / 8) _ es out wide)

-- by what feed gives
pub run_within_lem :
    (s t : Session) (es E N out : List ℕ) (n n' : Numbers) (taken listed : ℕ) (refusal : Option Refusal) (E' N' out' : List ℕ) →
    n ≡ session_numbers s → t ≡ with_numbers s n' →
    ◌≡◌ {A = Fed Seat} (record { seat = seat n' E' N'; taken = taken; listed = listed; refusal = fault_of refusal; out = out' })
    (fed (step_at (kept_in s.kept)) (length es / 8) (seat n E N) es out) →
    ran (record { session = t; taken = taken; listed = listed; refusal = refusal }) E' N' out' ≡ run_within s es E N out
unfolding run_within
run_within_lem s t es E N out n n' taken listed refusal E' N' out' Laid-as et e =
    ap (λ (u : Session). record { seat = housed u E' N'; taken = taken; listed = listed; refusal = fault_of refusal; out = out' }) et
    ∙ ap (λ (f : Fed Seat). all_across (λ (x : Seat). housed (with_numbers s x.numbers) x.elements x.nodes) f)
    (e ∙ ap (λ (m : Numbers). fed (step_at (kept_in s.kept)) (length es / 8) (seat m E N) es out) Laid-as)

pub run_one :
    (s : Session) (es E N out : List ℕ) (r r' : Ran) (A A' B B' o o' : List ℕ) → RunGives s es E N out r A B o → RunGives s es E N out r' A' B' o' →
    (r ≡ r') × ((A ≡ A') × ((B ≡ B') × (o ≡ o')))
run_one s es E N out r r' A A' B B' o o' g g' =
    let e = g ∙ sym g' in
    let e-session = ap (λ (f : Fed Housed). f.seat.session) e in
    let e-taken = ap (λ (f : Fed Housed). f.taken) e in
    let e-listed = ap (λ (f : Fed Housed). f.listed) e in
    let e-refusal = fault_one r.refusal r'.refusal (ap (λ (f : Fed Housed). f.refusal) e) in (
      λ i. record { session = e-session i; taken = e-taken i; listed = e-listed i; refusal = e-refusal i },
      (ap (λ (f : Fed Housed). f.seat.elements) e, (ap (λ (f : Fed Housed). f.seat.nodes) e, ap (λ (f : Fed Housed). f.out) e)),
    )
