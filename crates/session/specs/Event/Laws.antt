-- What the calls of an event give together, and that the promises of event and finish allow one result.
--
--   of_parts                           a session by what it keeps of its query and its numbers one by one
--   with_parts                         the numbers one by one
--   there, again                       a session with other numbers has these, if what they say by 0 or not 0 is said by 0 or 1; its own leave it as it is
--   stopped_numbers                    a session with its own numbers after a refusal is the session after it
--   stopped_other                      a refusal that does not stop leaves the session as it was
--   answer_refused, event_refused      an answer that is a refusal, and what an event with one leaves: all as it was but for the stop
--   event_gives                        an event, by what one on the session's numbers gives
--   event_cases                        an event by the tests of what is lent: refusals 1 and 15, else a step on the room that is needed
--   event_is, finish_is                a result that the promise allows is the model's
--   event_one, finish_one              two results that the promise allows are equal, and so is all that was lent
--
-- The session and what an event came to are given explicitly: they are too large to be found. Assumes nothing.
use Rattle.std.specs.Prelude.{ℕ, zero, suc, ◌≤◌, ◌≡◌, refl, Bool, true, false, not, ◌||◌, List, Result, eqb, ltb, length}
use Rattle.std.proofs.Common.{arith, sym, ◌∙◌, ne_eqb}
use Rattle.std.proofs.Math.Path.{ap, ap₂}
use Rattle.std.proofs.Math.Bool.{or-true, or-false}
use mir.Val.{bool_byte}
use Rattle.std.proofs.lemmas.Bool.{eqb-false}
use Rattle.choice.specs.When.{when, when_false, when_ap, when_known}
use Rattle.choice.specs.Count.{bool_byte_read}
use Rattle.meaning.specs.Refusals.{short_output, short_room, stops}
use Rattle.meaning.specs.Answer.{too_small}
use Rattle.meaning.specs.Limits.{output_needed}
use Rattle.numbers.specs.Numbers.{Numbers, Said, numbers_of, with_stop}
use Rattle.plan_bytes.specs.Kept.{kept_in}
use Rattle.stop.specs.Stop.{marked_by}
use Rattle.feed.specs.Fed.{Came}
use Rattle.feed.specs.Steps.{Seat, seat, came, stopped_at, step_at}
use Rattle.offer.specs.Offer.{needed, beside, offered}
use Rattle.offer.specs.Offer.Laws.{offered_refused}
use Rattle.session.specs.declared.Session.{Session}
use Rattle.session.specs.declared.Answer.{Answer}
use Rattle.session.specs.declared.Answer.TheVariants.{Refused}
use Rattle.session.specs.declared.Next.{Next}
use Rattle.session.specs.declared.Counts.{Counts}
use Rattle.limits.specs.declared.Refusal.{Refusal}
use Rattle.session.specs.Event.{Done, refused, session_of, session_numbers, with_numbers, stopped_by, answer_by, settled, event}
use Rattle.session.specs.Event.{ToldDone, told_as, told_of, EventGives, finish, FinishGives}
use Rattle.session.specs.Told.{told, told_one, ended_one}

pub of_parts :
    (kept : List ℕ) (n : Numbers) (depth held opened handed ended stopped : ℕ) → depth ≡ n.depth → held ≡ n.held → opened ≡ n.opened →
    handed ≡ n.handed → ended ≡ n.ended → stopped ≡ n.stopped →
    session_of kept (numbers_of depth held opened handed ended stopped) ≡ session_of kept n
of_parts kept n depth held opened handed ended stopped e₁ e₂ e₃ e₄ e₅ e₆ =
    λ i. session_of kept (numbers_of (e₁ i) (e₂ i) (e₃ i) (e₄ i) (e₅ i) (e₆ i))

pub with_parts :
    (s : Session) (n : Numbers) (depth held opened handed ended stopped : ℕ) → depth ≡ n.depth → held ≡ n.held → opened ≡ n.opened →
    handed ≡ n.handed → ended ≡ n.ended → stopped ≡ n.stopped →
    with_numbers s (numbers_of depth held opened handed ended stopped) ≡ with_numbers s n
with_parts s n = of_parts s.kept n

-- the numbers back

said_bit : (n : ℕ) → n ≤ 1 → bool_byte (not (eqb n 0)) ≡ n
said_bit zero h = refl
said_bit (suc zero) h = refl
said_bit (suc (suc n)) h = absurd (omega arith)

pub there : (s : Session) (n : Numbers) → Said n → session_numbers (with_numbers s n) ≡ n
there s n h =
    ap₂ (λ (k j : ℕ). numbers_of n.depth n.held n.opened n.handed k j) (said_bit n.ended h.ended) (said_bit n.stopped h.stopped)

-- with other bits
abbrev saying : Session → Bool → Bool → Session
saying s b c =
    record { kept = s.kept; depth = s.depth; held = s.held; opened = s.opened; handed = s.handed; ended = b; stopped = c }

pub again : (s : Session) → with_numbers s (session_numbers s) ≡ s
again s = ap₂ (saying s) (bool_byte_read s.ended) (bool_byte_read s.stopped)

-- after a refusal

stopped_by_lem : (c : Bool) (s : Session) → with_numbers s (when c (with_stop 1 (session_numbers s)) (session_numbers s)) ≡ saying s s.ended (s.stopped || c)
unfolding when
stopped_by_lem true s = ap₂ (saying s) (bool_byte_read s.ended) (sym (or-true s.stopped))
stopped_by_lem false s = ap₂ (saying s) (bool_byte_read s.ended) (bool_byte_read s.stopped ∙ sym (or-false s.stopped))

pub stopped_numbers : (r : ℕ) (s : Session) → with_numbers s (marked_by r (session_numbers s)) ≡ stopped_by r s
unfolding marked_by
stopped_numbers r s = stopped_by_lem (stops r) s

pub stopped_other : (r : ℕ) (s : Session) → stops r ≡ false → stopped_by r s ≡ s
stopped_other r s e = ap (λ (b : Bool). saying s s.ended (s.stopped || b)) e ∙ ap (saying s s.ended) (or-false s.stopped)

pub answer_refused : (refusal listed r : ℕ) → answer_by refusal listed ≡ Refused r → (refusal ≡ r) × (r ≡ 0 → ⊥)
unfolding answer_by
answer_refused refusal listed r =
    when_known (λ (a : Answer). a ≡ Refused r → (refusal ≡ r) × (r ≡ 0 → ⊥)) (eqb refusal 0) _ _
    (λ t e. let z : ◌≡◌ {A = ℕ} 0 1 = cc in absurd (omega arith))
    (λ f e. let z : refusal ≡ r = cc in (z, λ k. eqb-false refusal 0 f (z ∙ k)))

module _ (s : Session) (bytes E N out : List ℕ) where
  abbrev offer : Came Seat
  offer = offered (kept_in s.kept) (seat (session_numbers s) E N) bytes out

  settled_refused : (r : ℕ) → (r ≡ 0 → ⊥) → settled s (came r 0 (stopped_at r (seat (session_numbers s) E N)) out) ≡ refused r (stopped_by r s) E N out
  unfolding settled answer_by
  settled_refused r f =
      ap₂ (λ (a : Answer) (t : Session). record { answer = a; session = t; elements = E; nodes = N; out = out })
      (when_false (eqb r 0) _ (Refused r) (ne_eqb r 0 f)) (stopped_numbers r s)

  pub event_refused : (r : ℕ) → (event s bytes E N out).answer ≡ Refused r → event s bytes E N out ≡ refused r (stopped_by r s) E N out
  unfolding event settled
  event_refused r e =
      let is = answer_refused offer.refusal offer.listed r e in
      ap (settled s)
      (offered_refused (kept_in s.kept) (seat (session_numbers s) E N) bytes out (λ z. is.1 (sym is.0 ∙ z))
      ∙ ap (λ (k : ℕ). came k 0 (stopped_at k (seat (session_numbers s) E N)) out) is.0)
      ∙ settled_refused r is.1

-- by what an event on the numbers and the room gives; E' and N' are what the rooms hold on return
pub event_gives :
    (s : Session) (bytes E N out E' N' out' : List ℕ) (refusal listed : ℕ) (n n' : Numbers) → n ≡ session_numbers s →
    came refusal listed (seat n' E' N') out' ≡ offered (kept_in s.kept) (seat n E N) bytes out →
    (a : Answer) (t : Session) → a ≡ answer_by refusal listed → t ≡ with_numbers s n' → told_as a t E' N' out' ≡ told_of (event s bytes E N out)
unfolding event settled
event_gives s bytes E N out E' N' out' refusal listed n n' Laid-as given a t ea et =
    ap₂ (λ (x : Answer) (u : Session). told_as x u E' N' out') ea et
    ∙ ap (λ (c : Came Seat). told_of (settled s c)) (given ∙ ap (λ (m : Numbers). offered (kept_in s.kept) (seat m E N) bytes out) Laid-as)

-- by the tests of what is lent
module _ (s : Session) (bytes E N out : List ℕ) where
  lent_settled : (r : ℕ) → (r ≡ 0 → ⊥) → settled s (came r 0 (seat (session_numbers s) E N) out) ≡ refused r s E N out
  unfolding settled answer_by
  lent_settled r f =
      ap₂ (λ (a : Answer) (t : Session). record { answer = a; session = t; elements = E; nodes = N; out = out }) (when_false _ _ _ (ne_eqb r 0 f)) (again s)

  pub event_cases :
      event s bytes E N out
      ≡ when (ltb (length out) output_needed) (refused short_output s E N out)
      (when (too_small (length E) (length N)) (refused short_room s E N out)
      (settled s (beside (seat (session_numbers s) E N) (step_at (kept_in s.kept) (needed (seat (session_numbers s) E N)) bytes out))))
  unfolding event offered
  event_cases =
      let at : Seat = seat (session_numbers s) E N in
      when_ap (settled s) _ _ _
      ∙ ap₂ (when (ltb (length out) output_needed)) (lent_settled short_output (λ z. omega arith))
      (when_ap (settled s) _ _ _
      ∙ ap (λ (d : Done). when (too_small (length E) (length N)) d (settled s (beside at (step_at (kept_in s.kept) (needed at) bytes out))))
      (lent_settled short_room (λ z. omega arith)))

-- what stands for the same is the same: the case of the enum, by what it tells
told_same :
    (a a' : Answer) (s s' : Session) (E E' N N' o o' : List ℕ) → told_as a s E N o ≡ told_as a' s' E' N' o' →
    (a ≡ a') × ((s ≡ s') × ((E ≡ E') × ((N ≡ N') × (o ≡ o'))))
told_same a a' s s' E E' N N' o o' e =
    let eo : o ≡ o' = ap (λ (d : ToldDone). d.out) e in (
      told_one a a' o' (ap (told a) (sym eo) ∙ ap (λ (d : ToldDone). d.answer) e),
      (ap (λ (d : ToldDone). d.session) e, (ap (λ (d : ToldDone). d.elements) e, (ap (λ (d : ToldDone). d.nodes) e, eo))),
    )

pub event_is :
    (s : Session) (bytes E N out : List ℕ) (r : Next) (E' N' out' : List ℕ) → EventGives s bytes E N out r E' N' out' →
    ◌≡◌ {A = Done} (record { answer = r.answer; session = r.session; elements = E'; nodes = N'; out = out' }) (event s bytes E N out)
event_is s bytes E N out r E' N' out' g =
    let d : Done = event s bytes E N out in
    let e = told_same r.answer d.answer r.session d.session E' d.elements N' d.nodes out' d.out g in
    λ i. record { answer = e.0 i; session = e.1.0 i; elements = e.1.1.0 i; nodes = e.1.1.1.0 i; out = e.1.1.1.1 i }

pub event_one :
    (s : Session) (bytes E N out : List ℕ) (r r' : Next) (A A' B B' o o' : List ℕ) → EventGives s bytes E N out r A B o →
    EventGives s bytes E N out r' A' B' o' → (r ≡ r') × ((A ≡ A') × ((B ≡ B') × (o ≡ o')))
event_one s bytes E N out r r' A A' B B' o o' g g' =
    let e = told_same r.answer r'.answer r.session r'.session A A' B B' o o' (g ∙ sym g') in
    (ap₂ (λ (a : Answer) (t : Session). record { answer = a; session = t }) e.0 e.1.0, e.1.1)

pub finish_is : (s : Session) (r : Result Counts Refusal) → FinishGives s r → r ≡ finish s
finish_is s r g = ended_one r (finish s) g

pub finish_one : (s : Session) (r r' : Result Counts Refusal) → FinishGives s r → FinishGives s r' → r ≡ r'
finish_one s r r' g g' = ended_one r r' (g ∙ sym g')
