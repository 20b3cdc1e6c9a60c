-- Refusals 1, 15 and 11 are given by what is lent and by the stop alone, on any session and room.
--
--   Own k             k is one of 2 to 7, or 0
--   own_step          so is the refusal of every step, whatever the numbers and the room hold
--   event_short       1 exactly when the buffer is too short
--   event_small       15 exactly when a room is too small and 1 does not apply
--   event_stopped     11 exactly when the session is stopped and neither applies
--   Known n           n is the number of a refusal of the code's enum, or 0
--   event_known       so is that of every refusal of an event
--
-- Assumes nothing.
use Rattle.std.specs.Prelude.{ℕ, zero, suc, ◌≤◌, ◌<◌, ◌↔◌, ◌≡◌, refl, Bool, true, false, List, Option, Some, None, T, eqb, ltb, length}
use native.Mathlib.Omega.{arith}
use Rattle.std.proofs.Common.{sym, ◌∙◌, subst, ne_eqb, lt-ltb, le-ltb, ltb-true, ltb-false}
use Rattle.std.proofs.Math.Path.{ap}
use mir.Val.{bool_byte}
use Rattle.choice.specs.When.{when_true, when_false, when_either}
use Rattle.meaning.specs.Logic.{is_true}
use Rattle.meaning.specs.Limits.{output_needed}
use Rattle.meaning.specs.Refusals.{short_output, short_room, already_stopped, bad_record, wrong_close, too_many_held}
use Rattle.meaning.specs.Record.{event_of}
use Rattle.meaning.specs.Answer.{too_small}
use Rattle.limits.specs.Number.{fault_of}
use Rattle.limits.specs.Number.Laws.{refusal_at}
use Rattle.records.specs.declared.Event.{Event}
use Rattle.records.specs.declared.Event.TheVariants.{Open, Close}
use Rattle.records.specs.Read.{shown}
use Rattle.plan.specs.Plan.{Plan}
use Rattle.plan_bytes.specs.Kept.{kept_in}
use Rattle.element.specs.Element.{Elements}
use Rattle.node.specs.Node.{Queue}
use Rattle.numbers.specs.Numbers.{Numbers}
use Rattle.tally.specs.Tally.{refuse_open, refuse_close}
use Rattle.opening.specs.Opening.{over_in}
use Rattle.step.specs.Step.{After, refused_with, open_taken, on_open, close_taken, on_close, step}
use Rattle.stop.specs.Stop.Laws.{guarded_stopped, guarded_going}
use Rattle.feed.specs.Fed.{Came}
use Rattle.feed.specs.Steps.{Seat, seat, step_at}
use Rattle.feed.specs.Steps.Laws.{at_refusal}
use Rattle.offer.specs.Offer.{needed}
use Rattle.session.specs.declared.Session.{Session}
use Rattle.session.specs.declared.Answer.{Answer}
use Rattle.session.specs.declared.Answer.TheVariants.{Refused}
use Rattle.session.specs.Event.{Done, session_numbers, answer_by, settled, event}
use Rattle.session.specs.Event.Laws.{answer_refused, event_cases}

abbrev Own : ℕ → Type 0
Own k = (k ≤ 7) × (k ≡ 1 → ⊥)

own_open : (n : Numbers) → Own (refuse_open n)
unfolding refuse_open
own_open n =
    when_either Own _ _ _ (omega arith, λ e. omega arith)
    (when_either Own _ _ _ (omega arith, λ e. omega arith)
    (when_either Own _ _ _ (omega arith, λ e. omega arith)
    (when_either Own _ _ _ (omega arith, λ e. omega arith) (omega arith, λ e. omega arith))))

own_close : (n : Numbers) (E : Elements) (x : ℕ) → Own (refuse_close n E x)
unfolding refuse_close
own_close n E x =
    let wrong : Own wrong_close = (omega arith, λ e. omega arith) in
    when_either Own _ _ _ (omega arith, λ e. omega arith)
    (when_either Own _ _ _ wrong
    (when_either Own _ _ _ wrong
    (when_either Own _ _ _ (when_either Own _ _ _ (omega arith, λ e. omega arith) (omega arith, λ e. omega arith)) wrong)))

module _ (P : Plan) (n : Numbers) (E : Elements) (N : Queue) (out : List ℕ) where
  OwnAfter : After → Type 0
  OwnAfter a = Own a.refusal

  taken_open : (x : ℕ) → OwnAfter (open_taken P x n E N out)
  unfolding OwnAfter open_taken
  taken_open x = (omega arith, λ e. omega arith)

  taken_close : OwnAfter (close_taken P n E N out)
  unfolding OwnAfter close_taken
  taken_close = (omega arith, λ e. omega arith)

  own_refused : (r : ℕ) → Own r → OwnAfter (refused_with r n E N out)
  unfolding OwnAfter
  own_refused r h = h

  own_after : (e : Option Event) → OwnAfter (step P e n E N out)
  unfolding step on_open on_close
  own_after (Some (Open x)) =
      when_either OwnAfter (eqb (refuse_open n) 0) _ _
      (when_either OwnAfter (over_in P x n.depth n.held E N) _ _ (own_refused too_many_held (omega arith, λ e. omega arith)) (taken_open x))
      (own_refused (refuse_open n) (own_open n))
  own_after (Some (Close x)) =
      when_either OwnAfter (eqb (refuse_close n E x) 0) _ _ taken_close (own_refused (refuse_close n E x) (own_close n E x))
  own_after None = own_refused bad_record (omega arith, λ e. omega arith)

  own_step : (e : Option Event) → Own (step P e n E N out).refusal
  unfolding OwnAfter
  own_step e = own_after e

-- the number of a refusal, by whether the buffer is too short, the room too small and the session stopped
data Numbered (n : ℕ) : Bool → Bool → Bool → Type 0 where
  one_is : {y z : Bool} → short_output ≡ n → Numbered n true y z
  fifteen_is : {z : Bool} → short_room ≡ n → Numbered n false true z
  eleven_is : already_stopped ≡ n → Numbered n false false true
  own_is : Own n → Numbered n false false false

when_one : {x y z : Bool} → Numbered short_output x y z → x ≡ true
when_one (one_is e) = refl
when_one (fifteen_is e) = absurd (omega arith)
when_one (eleven_is e) = absurd (omega arith)
when_one (own_is h) = absurd (h.1 refl)

when_fifteen : {x y z : Bool} → Numbered short_room x y z → (x ≡ false) × (y ≡ true)
when_fifteen (one_is e) = absurd (omega arith)
when_fifteen (fifteen_is e) = (refl, refl)
when_fifteen (eleven_is e) = absurd (omega arith)
when_fifteen (own_is h) = absurd (omega (arith, h.0))

when_eleven : {x y z : Bool} → Numbered already_stopped x y z → (x ≡ false) × (y ≡ false) × (z ≡ true)
when_eleven (one_is e) = absurd (omega arith)
when_eleven (fifteen_is e) = absurd (omega arith)
when_eleven (eleven_is e) = (refl, refl, refl)
when_eleven (own_is h) = absurd (omega (arith, h.0))

-- a number up to 8, 11 or 15 is that of a refusal

abbrev pub Known : ℕ → Type 0
Known n = fault_of (refusal_at n) ≡ n

low_known : (n : ℕ) → n ≤ 8 → Known n
unfolding refusal_at
low_known zero h = refl
low_known (suc zero) h = refl
low_known (suc (suc zero)) h = refl
low_known (suc (suc (suc zero))) h = refl
low_known (suc (suc (suc (suc zero)))) h = refl
low_known (suc (suc (suc (suc (suc zero))))) h = refl
low_known (suc (suc (suc (suc (suc (suc zero)))))) h = refl
low_known (suc (suc (suc (suc (suc (suc (suc zero))))))) h = refl
low_known (suc (suc (suc (suc (suc (suc (suc (suc zero)))))))) h = refl
low_known (suc (suc (suc (suc (suc (suc (suc (suc (suc n))))))))) h = absurd (omega arith)

known_by : {n : ℕ} {x y z : Bool} → Numbered n x y z → Known n
unfolding refusal_at
known_by (one_is e) = subst Known e refl
known_by (fifteen_is e) = subst Known e refl
known_by (eleven_is e) = subst Known e refl
known_by {n} (own_is h) = low_known n (omega (arith, h.0))

refused_is : {m n : ℕ} → ◌≡◌ {A = Answer} (Refused m) (Refused n) → m ≡ n
refused_is e = cc

module _ (s : Session) (bytes E N out : List ℕ) where
  abbrev at : Seat
  at = seat (session_numbers s) E N

  abbrev came : Came Seat
  came = step_at (kept_in s.kept) (needed at) bytes out

  -- with enough lent the refusal is that of the stop or the step's
  came_stopped : s.stopped ≡ true → came.refusal ≡ already_stopped
  came_stopped t =
      at_refusal (kept_in s.kept) (needed at) bytes out
      ∙ ap (λ (a : After). a.refusal)
      (guarded_stopped (kept_in s.kept) (shown (event_of bytes)) (session_numbers s) _ _ out (ap (λ (x : Bool). eqb (bool_byte x) 0) t))

  came_own : s.stopped ≡ false → Own came.refusal
  came_own f =
      subst Own
      (sym
      (at_refusal (kept_in s.kept) (needed at) bytes out
      ∙ ap (λ (a : After). a.refusal)
      (guarded_going (kept_in s.kept) (shown (event_of bytes)) (session_numbers s) _ _ out (ap (λ (x : Bool). eqb (bool_byte x) 0) f))))
      (own_step (kept_in s.kept) (session_numbers s) _ _ out (shown (event_of bytes)))

  -- by the tests of what is lent
  answer_short : ltb (length out) output_needed ≡ true → (event s bytes E N out).answer ≡ Refused short_output
  answer_short t = ap (λ (d : Done). d.answer) (event_cases s bytes E N out ∙ when_true (ltb (length out) output_needed) _ _ t)

  answer_small :
      ltb (length out) output_needed ≡ false → too_small (length E) (length N) ≡ true → (event s bytes E N out).answer ≡ Refused short_room
  answer_small f t =
      ap (λ (d : Done). d.answer)
      (event_cases s bytes E N out ∙ when_false (ltb (length out) output_needed) _ _ f ∙ when_true (too_small (length E) (length N)) _ _ t)

  answer_came :
      ltb (length out) output_needed ≡ false → too_small (length E) (length N) ≡ false →
      (event s bytes E N out).answer ≡ answer_by came.refusal came.listed
  unfolding settled
  answer_came f g =
      ap (λ (d : Done). d.answer)
      (event_cases s bytes E N out ∙ when_false (ltb (length out) output_needed) _ _ f ∙ when_false (too_small (length E) (length N)) _ _ g)

  answer_stopped :
      ltb (length out) output_needed ≡ false → too_small (length E) (length N) ≡ false → s.stopped ≡ true →
      (event s bytes E N out).answer ≡ Refused already_stopped
  unfolding answer_by
  answer_stopped f g t =
      answer_came f g ∙ ap (λ (k : ℕ). answer_by k came.listed) (came_stopped t)
      ∙ when_false _ _ (Refused already_stopped) (ne_eqb already_stopped 0 (λ z. omega arith))

  -- the number of a refusal, by what is lent and by the stop
  numbered :
      (n : ℕ) (x y z : Bool) → ltb (length out) output_needed ≡ x → too_small (length E) (length N) ≡ y → s.stopped ≡ z →
      (event s bytes E N out).answer ≡ Refused n → Numbered n x y z
  numbered n true y z p q t e = one_is (refused_is (sym (answer_short p) ∙ e))
  numbered n false true z p q t e = fifteen_is (refused_is (sym (answer_small p q) ∙ e))
  numbered n false false true p q t e = eleven_is (refused_is (sym (answer_stopped p q t) ∙ e))
  numbered n false false false p q t e =
      own_is (subst Own (answer_refused came.refusal came.listed n (sym (answer_came p q) ∙ e)).0 (came_own t))

  abbrev Lent : ℕ → Type 0
  Lent n = Numbered n (ltb (length out) output_needed) (too_small (length E) (length N)) s.stopped

  number_of : (n : ℕ) → (event s bytes E N out).answer ≡ Refused n → Lent n
  number_of n e = numbered n _ _ _ refl refl refl e

  pub event_known : (n : ℕ) → (event s bytes E N out).answer ≡ Refused n → Known n
  event_known n e = known_by (number_of n e)

  pub event_short : ((event s bytes E N out).answer ≡ Refused short_output) ↔ (length out < output_needed)
  event_short = (λ e. ltb-true (length out) output_needed (when_one (number_of short_output e)), λ h. answer_short (lt-ltb _ _ h))

  pub event_small :
      ((event s bytes E N out).answer ≡ Refused short_room) ↔ ((output_needed ≤ length out) × (too_small (length E) (length N) ≡ true))
  event_small = (
    λ e. let w = when_fifteen (number_of short_room e) in (ltb-false (length out) output_needed w.0, w.1),
    λ h. answer_small (le-ltb (length out) output_needed h.0) h.1,
  )

  pub event_stopped :
      ((event s bytes E N out).answer ≡ Refused already_stopped)
      ↔ ((output_needed ≤ length out) × (too_small (length E) (length N) ≡ false) × T s.stopped)
  event_stopped = (
    λ e. let w = when_eleven (number_of already_stopped e) in (ltb-false (length out) output_needed w.0, w.1, subst T (sym w.2) tt),
    λ h. answer_stopped (le-ltb (length out) output_needed h.0) h.1 (is_true s.stopped h.2),
  )
