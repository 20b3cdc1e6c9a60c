-- What an event on room of any length leaves, and that the promise of offer allows one result.
--
--   offer_lent            refusals 1 and 15, by the lengths of what is lent
--   offer_parts           any other answer, by the parts of the room that were lent on
--   offered_long          on longer room: a step, and the bytes past the needed ones as they were
--   offered_refused       a refused event leaves all as it was but for the stop
--   offer_one             two results that the promise allows are equal, and so is all that was lent
--
-- What is large is given explicitly. Assumes nothing.
use Prim.Native.Nat.{ℕ, ◌≤◌}
use Rattle.std.proofs.Common.{arith, sym, ◌∙◌, take-append-drop, length-append, take_at, drop_at, le-ltb}
use Rattle.std.specs.Prelude.{◌≡◌, refl, Bool, true, false, Result, Ok, Err, length, take, drop}
use Rattle.std.proofs.Math.Path.{ap, ap₂}
use mathlib.Core.List.{List, ◌++◌}
use Rattle.choice.specs.When.{when, when_false, when_no, when_either}
use Rattle.lent.specs.Lent.{refuse_room, refuse_lent}
use Rattle.meaning.specs.Answer.{too_small}
use Rattle.meaning.proofs.Answer.Laws.{not_small}
use Rattle.meaning.specs.Limits.{output_needed, elements_needed, nodes_needed}
use Rattle.meaning.specs.Refusals.{short_output, short_room, stops}
use Rattle.plan.specs.Plan.{Plan}
use Rattle.numbers.specs.Numbers.{Numbers}
use Rattle.limits.specs.declared.Refusal.{Refusal}
use Rattle.limits.specs.Number.{fault_in}
use Rattle.limits.specs.Number.Laws.{some_number, number_one}
use Rattle.step.specs.Step.{listed_in}
use Rattle.stop.specs.Stop.{marked_by}
use Rattle.stop.specs.Stop.Laws.{marked_other}
use Rattle.feed.specs.Fed.{Came}
use Rattle.feed.specs.Fed.Across.{across}
use Rattle.feed.specs.Steps.{Seat, seat, came, stopped_at, step_at}
use Rattle.feed.specs.Steps.Laws.{refused_at_lem}
use Rattle.offer.specs.Offer.{needed, longer, beside, offered, OfferGives}

-- by the tests of what is lent: 1 and 15 stop nothing

lent_is :
    (r : ℕ) (s : Seat) (n' : Numbers) (out : List ℕ) (k : ℕ) → stops k ≡ false → r ≡ k → n' ≡ marked_by r s.numbers →
    came r 0 (seat n' s.elements s.nodes) out ≡ came k 0 s out
lent_is r s n' out k idle e m =
    ap₂ (λ (x : ℕ) (y : Numbers). came x 0 (seat y s.elements s.nodes) out) e
    (m ∙ ap (λ (x : ℕ). marked_by x s.numbers) e ∙ marked_other k s.numbers idle)

lent_cases :
    (a b : Bool) (r : ℕ) (s : Seat) (n' : Numbers) (out : List ℕ) (c : Came Seat) → r ≡ when a short_output (when b short_room 0) → (r ≡ 0 → ⊥) →
    n' ≡ marked_by r s.numbers →
    came r 0 (seat n' s.elements s.nodes) out ≡ when a (came short_output 0 s out) (when b (came short_room 0 s out) c)
unfolding when
lent_cases true b r s n' out c e f m = lent_is r s n' out short_output (unfold stops in refl) e m
lent_cases false true r s n' out c e f m = lent_is r s n' out short_room (unfold stops in refl) e m
lent_cases false false r s n' out c e f m = absurd (f e)

pub offer_lent :
    (P : Plan) (s : Seat) (bytes out : List ℕ) (r : Result ℕ Refusal) (k : ℕ) (n' : Numbers) →
    k ≡ refuse_lent (length out) (length s.elements) (length s.nodes) → (k ≡ 0 → ⊥) → fault_in r ≡ k → listed_in r ≡ 0 →
    n' ≡ marked_by k s.numbers → OfferGives P s bytes out r (seat n' s.elements s.nodes) out
unfolding offered refuse_lent refuse_room
offer_lent P s bytes out r k n' e f g l m =
    ap₂ (λ (x y : ℕ). came x y (seat n' s.elements s.nodes) out) g l ∙ lent_cases _ _ k s n' out _ e f m

-- by the parts of the room that were lent on: k and l are how long they are
pub offer_parts :
    (P : Plan) (s : Seat) (bytes out : List ℕ) (c : Came Seat) (k l : ℕ) → elements_needed ≡ k → nodes_needed ≡ l → output_needed ≤ length out →
    too_small (length s.elements) (length s.nodes) ≡ false →
    c ≡ step_at P (seat s.numbers (take k s.elements) (take l s.nodes)) bytes out →
    came c.refusal c.listed (seat c.seat.numbers (c.seat.elements ++ drop k s.elements) (c.seat.nodes ++ drop l s.nodes)) c.out
    ≡ offered P s bytes out
unfolding offered
offer_parts P s bytes out c k l ek el h f e =
    ap₂ (λ i j. across (longer (drop i s.elements) (drop j s.nodes)) c) (sym ek) (sym el)
    ∙ when_no _ (beside s c) _ _ (le-ltb _ _ h)
    (when_no _ (beside s c) _ _ f
    (ap (beside s) (e ∙ ap₂ (λ i j. step_at P (seat s.numbers (take i s.elements) (take j s.nodes)) bytes out) (sym ek) (sym el))))

-- on longer room
pub offered_long :
    (P : Plan) (s : Seat) (A B bytes out : List ℕ) → length s.elements ≡ elements_needed → length s.nodes ≡ nodes_needed →
    output_needed ≤ length out → offered P (longer A B s) bytes out ≡ across (longer A B) (step_at P s bytes out)
unfolding offered
offered_long P s A B bytes out longE longN h =
    when_false _ _ _ (le-ltb _ _ h)
    ∙ when_false _ _ _
    (not_small _ _ (omega (arith, length-append s.elements A, longE)) (omega (arith, length-append s.nodes B, longN)))
    ∙ ap₂ (λ (X Y : List ℕ). beside (longer A B s) (step_at P (seat s.numbers X Y) bytes out))
    (take_at s.elements A elements_needed longE) (take_at s.nodes B nodes_needed longN)
    ∙ ap₂ (λ (X Y : List ℕ). across (longer X Y) (step_at P s bytes out))
    (drop_at s.elements A elements_needed longE) (drop_at s.nodes B nodes_needed longN)

-- a result by its parts

one_result : (r r' : Result ℕ Refusal) → fault_in r ≡ fault_in r' → listed_in r ≡ listed_in r' → r ≡ r'
one_result (Ok k) (Ok k') e l = ap Ok l
one_result (Ok k) (Err x) e l = absurd (omega (arith, some_number x))
one_result (Err x) (Ok k) e l = absurd (omega (arith, some_number x))
one_result (Err x) (Err x') e l = ap Err (number_one x x' e)

-- a refused event

module _ (P : Plan) (s : Seat) (bytes out : List ℕ) where
  Kept : Came Seat → Type 0
  Kept c = (c.refusal ≡ 0 → ⊥) → c ≡ came c.refusal 0 (stopped_at c.refusal s) out

  -- 1 and 15 stop nothing
  kept_lent : (r : ℕ) → stops r ≡ false → Kept (came r 0 s out)
  unfolding Kept
  kept_lent r e f = ap (λ (n : Numbers). came r 0 (seat n s.elements s.nodes) out) (sym (marked_other r s.numbers e))

  kept_step : Kept (beside s (step_at P (needed s) bytes out))
  unfolding Kept
  kept_step f =
      let r : ℕ = (step_at P (needed s) bytes out).refusal in
      ap (beside s) (refused_at_lem P (needed s) bytes out f)
      ∙ ap₂ (λ (X Y : List ℕ). came r 0 (seat (marked_by r s.numbers) X Y) out)
      (take-append-drop elements_needed s.elements) (take-append-drop nodes_needed s.nodes)

  pub offered_refused :
      ((offered P s bytes out).refusal ≡ 0 → ⊥) →
      offered P s bytes out ≡ came (offered P s bytes out).refusal 0 (stopped_at (offered P s bytes out).refusal s) out
  unfolding offered Kept
  offered_refused =
      when_either Kept _ _ _ (kept_lent short_output (unfold stops in refl))
      (when_either Kept _ _ _ (kept_lent short_room (unfold stops in refl)) kept_step)

  pub offer_one :
      (r r' : Result ℕ Refusal) (t t' : Seat) (o o' : List ℕ) → OfferGives P s bytes out r t o → OfferGives P s bytes out r' t' o' →
      (r ≡ r') × ((t ≡ t') × (o ≡ o'))
  offer_one r r' t t' o o' g g' =
      let e = g ∙ sym g' in (
        one_result r r' (ap (λ (c : Came Seat). c.refusal) e) (ap (λ (c : Came Seat). c.listed) e),
        (ap (λ (c : Came Seat). c.seat) e, ap (λ (c : Came Seat). c.out) e),
      )
