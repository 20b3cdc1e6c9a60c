-- What an event asks of the numbers that say whether the document element has been closed and whether the session is stopped, and what they say afterwards.
--
--   after_end e            the refusal of the event e where the document element has been closed: 2 or 3
--   offered_said          they are 0 or 1 afterwards, if they were before
--   offered_alike         with others that are 0 in the same cases the refusal is the same, and if that is 0 so is everything (Offer.Alike, OfferedAlike)
--
-- Assumes nothing.
use Rattle.std.specs.Prelude.{ℕ, ◌≡◌, Bool, true, false, Option, None, Some, List, eqb, ltb, length}
use Rattle.std.proofs.Common.{arith, sym, ap₂, ◌∙◌, eqb-true, eq-eqb, ne_eqb}
use Rattle.std.proofs.Math.Path.{refl, ap}
use Rattle.std.proofs.Math.Bool.{not}
use Rattle.choice.specs.When.{when, when_true, when_false, when_ap, when_either, never}
use Rattle.meaning.specs.Answer.{too_small}
use Rattle.meaning.specs.Limits.{output_needed}
use Rattle.meaning.specs.Record.{event_of}
use Rattle.meaning.specs.Refusals.{short_output, short_room, already_stopped, bad_record}
use Rattle.meaning.specs.Refusals as refusals
use Rattle.records.specs.declared.Event.{Event}
use Rattle.records.specs.declared.Event.TheVariants.{Open, Close}
use Rattle.records.specs.Read.{shown}
use Rattle.plan.specs.Plan.{Plan}
use Rattle.element.specs.Element.{Elements, elements_in}
use Rattle.node.specs.Node.{Queue, queue_in}
use Rattle.numbers.specs.Numbers.{Numbers, Said}
use Rattle.tally.specs.Tally.{refuse_open, refuse_close}
use Rattle.step.specs.Step.{After, on_open, on_close, step}
use Rattle.stop.specs.Stop.Laws.{marked_said, guarded_said, guarded_stopped, guarded_going}
use Rattle.feed.specs.Fed.{Came}
use Rattle.feed.specs.Steps.{Seat, seat, came_to, step_at}
use Rattle.feed.specs.Steps.Laws.{at_refusal}
use Rattle.offer.specs.Offer.{needed, offered}
use Rattle.offer.specs.Offer.Alike.{saying, OfferedAlike}

-- "3: the document element has been closed"
unfoldable after_end : Option Event → ℕ
after_end (Some (Open x)) = refusals.after_end
after_end (Some (Close x)) = refusals.after_end
after_end None = bad_record

some_after : (e : Option Event) → eqb (after_end e) 0 ≡ false
unfolding after_end
some_after (Some (Open x)) = ne_eqb refusals.after_end 0 (λ z. omega arith)
some_after (Some (Close x)) = ne_eqb refusals.after_end 0 (λ z. omega arith)
some_after None = ne_eqb bad_record 0 (λ z. omega arith)

-- a step

module _ (P : Plan) (n : Numbers) (E : Elements) (N : Queue) (out : List ℕ) (over : eqb n.ended 0 ≡ false) where
  open_after : refuse_open n ≡ refusals.after_end
  unfolding refuse_open
  open_after = when_true _ _ _ (ap not over)

  close_after : (x : ℕ) → refuse_close n E x ≡ refusals.after_end
  unfolding refuse_close
  close_after x = when_true _ _ _ (ap not over)

  some_is : (r : ℕ) → r ≡ refusals.after_end → eqb r 0 ≡ false
  some_is r e = ap (λ (k : ℕ). eqb k 0) e ∙ ne_eqb refusals.after_end 0 (λ z. omega arith)

  step_after : (e : Option Event) → (step P e n E N out).refusal ≡ after_end e
  unfolding step on_open on_close after_end
  step_after (Some (Open x)) = ap (λ (a : After). a.refusal) (when_false _ _ _ (some_is (refuse_open n) open_after)) ∙ open_after
  step_after (Some (Close x)) = ap (λ (a : After). a.refusal) (when_false _ _ _ (some_is (refuse_close n E x) (close_after x))) ∙ close_after x
  step_after None = refl

-- a step with the stop

module _ (P : Plan) (s : Seat) (bytes out : List ℕ) where
  abbrev e : Option Event
  e = shown (event_of bytes)

  at_stopped : eqb s.numbers.stopped 0 ≡ false → (step_at P s bytes out).refusal ≡ already_stopped
  at_stopped over = at_refusal P s bytes out ∙ ap (λ (a : After). a.refusal) (guarded_stopped P e s.numbers _ _ out over)

  at_after : eqb s.numbers.stopped 0 ≡ true → eqb s.numbers.ended 0 ≡ false → (step_at P s bytes out).refusal ≡ after_end e
  at_after on over =
      at_refusal P s bytes out ∙ ap (λ (a : After). a.refusal) (guarded_going P e s.numbers _ _ out on)
      ∙ step_after P s.numbers (elements_in s.elements) (queue_in s.nodes) out over e

  at_said : Said s.numbers → Said (step_at P s bytes out).seat.numbers
  unfolding step_at came_to
  at_said said =
      when_either (λ (c : Came Seat). Said c.seat.numbers) _ _ _
      (guarded_said P e s.numbers (elements_in s.elements) (queue_in s.nodes) out said) (marked_said _ _ said)

-- an event

module _ (P : Plan) (s : Seat) (bytes out : List ℕ) where
  pub offered_said : Said s.numbers → Said (offered P s bytes out).seat.numbers
  unfolding offered
  offered_said said =
      when_either SaidAfter _ _ _ said (when_either SaidAfter _ _ _ said (at_said P (needed s) bytes out said))
    where
      SaidAfter : Came Seat → Type 0
      SaidAfter c = Said c.seat.numbers

module _ (P : Plan) (n : Numbers) (k j : ℕ) (E N bytes out : List ℕ) (so : eqb k 0 ≡ eqb n.ended 0) (st : eqb j 0 ≡ eqb n.stopped 0) where
  abbrev at : Numbers → Came Seat
  at m = offered P (seat m E N) bytes out

  abbrev step_of : Numbers → Came Seat
  step_of m = step_at P (needed (seat m E N)) bytes out

  abbrev was : Came Seat
  was = at n

  abbrev is : Came Seat
  is = at (saying k j n)

  -- by what is lent, and else r
  abbrev lent : ℕ → ℕ
  lent r = when (ltb (length out) output_needed) short_output (when (too_small (length E) (length N)) short_room r)

  by_lent : (m : Numbers) → (at m).refusal ≡ lent (step_of m).refusal
  unfolding offered
  by_lent m =
      when_ap (λ (c : Came Seat). c.refusal) _ _ _
      ∙ ap (when (ltb (length out) output_needed) short_output) (when_ap (λ (c : Came Seat). c.refusal) _ _ _)

  some_lent : (r : ℕ) → eqb r 0 ≡ false → eqb (lent r) 0 ≡ false
  some_lent r f =
      when_either Some _ _ _ (ne_eqb short_output 0 (λ z. omega arith)) (when_either Some _ _ _ (ne_eqb short_room 0 (λ z. omega arith)) f)
    where
      Some : ℕ → Type 0
      Some x = eqb x 0 ≡ false

  refused_alike :
      (r : ℕ) → eqb r 0 ≡ false → (step_of (saying k j n)).refusal ≡ r → (step_of n).refusal ≡ r →
      (is.refusal ≡ was.refusal) × (was.refusal ≡ 0 → is ≡ was)
  refused_alike r f e' e =
      let other : is.refusal ≡ lent r = by_lent (saying k j n) ∙ ap lent e' in
      let this : was.refusal ≡ lent r = by_lent n ∙ ap lent e in
      (other ∙ sym this, λ z. never (sym (some_lent r f) ∙ eq-eqb (lent r) 0 (sym this ∙ z)))

  either : (b c : Bool) → eqb n.stopped 0 ≡ b → eqb n.ended 0 ≡ c → (is.refusal ≡ was.refusal) × (was.refusal ≡ 0 → is ≡ was)
  either true true t e =
      let same : is ≡ was =
      ap₂ (λ (x y : ℕ). at (saying x y n)) (eqb-true k 0 (so ∙ e) ∙ sym (eqb-true n.ended 0 e)) (eqb-true j 0 (st ∙ t) ∙ sym (eqb-true n.stopped 0 t)) in
      (ap (λ (c : Came Seat). c.refusal) same, λ z. same)
  either true false t e =
      refused_alike (after_end (shown (event_of bytes))) (some_after _) (at_after P (needed (seat (saying k j n) E N)) bytes out (st ∙ t) (so ∙ e))
      (at_after P (needed (seat n E N)) bytes out t e)
  either false c t e =
      refused_alike already_stopped (ne_eqb already_stopped 0 (λ z. omega arith)) (at_stopped P (needed (seat (saying k j n) E N)) bytes out (st ∙ t))
      (at_stopped P (needed (seat n E N)) bytes out t)

  alike : (is.refusal ≡ was.refusal) × (was.refusal ≡ 0 → is ≡ was)
  alike = either (eqb n.stopped 0) (eqb n.ended 0) refl refl

pub offered_alike : (P : Plan) (n : Numbers) (k j : ℕ) (E N bytes out : List ℕ) → OfferedAlike P n k j E N bytes out
offered_alike P n k j E N bytes out = λ so st. alike P n k j E N bytes out so st
