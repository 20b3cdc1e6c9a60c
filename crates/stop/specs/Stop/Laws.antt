-- What the stop leaves.
--
--   marked_other      a refusal that does not stop leaves the numbers as they were
--   marked_same       and an event with such a refusal, or with none, as it was
--   marked_said       what is said by 0 or not 0 is said by 0 or 1, if it was before
--   guard_stopped, guard_step     an event by what the code reads and writes: a stopped session, and a step with the stop
--   guarded_stopped, guarded_going      an event of a session that is stopped, and of one that is not
--   refused_marked    a refused event leaves all as it was but for the stop
--   guarded_said      what is said by 0 or not 0 is said by 0 or 1, if it was before
--
-- Assumes nothing.
use Rattle.std.specs.Prelude.{ℕ, ◌≡◌, true, false, Option, Result, Err, List, eqb}
use Rattle.std.proofs.Common.{arith, sym, ap₂, ◌∙◌, eq-eqb, ne_eqb}
use Rattle.std.proofs.Math.Path.{refl, ap, subst}
use Rattle.choice.specs.When.{when_true, when_false, when_yes, when_no, when_either}
use Rattle.meaning.specs.Refusals.{already_stopped, stops}
use Rattle.limits.specs.declared.Refusal.{Refusal}
use Rattle.limits.specs.declared.Refusal.TheVariants.{Stopped}
use Rattle.limits.specs.Number.{fault_in}
use Rattle.records.specs.declared.Event.{Event}
use Rattle.plan.specs.Plan.{Plan}
use Rattle.element.specs.Element.{Elements}
use Rattle.node.specs.Node.{Queue}
use Rattle.numbers.specs.Numbers.{Numbers, Said}
use Rattle.step.specs.Step.{After, after, listed_in, refused_with, step}
use Rattle.step.proofs.Steps.Left.{refused_same, step_said}
use Rattle.stop.specs.Stop.{marked_by, marked, guarded}

pub marked_other : (r : ℕ) (n : Numbers) → stops r ≡ false → marked_by r n ≡ n
unfolding marked_by
marked_other r n e = when_false (stops r) _ _ e

pub marked_same : (a : After) → stops a.refusal ≡ false → marked a ≡ a
marked_same a e = ap (λ (n : Numbers). after a.refusal a.listed n a.elements a.nodes a.out) (marked_other a.refusal a.numbers e)

pub marked_said : (r : ℕ) (n : Numbers) → Said n → Said (marked_by r n)
unfolding marked_by
marked_said r n said = when_either Said (stops r) _ _ (record { ended = said.ended; stopped = omega arith }) said

module _ (P : Plan) (e : Option Event) (n : Numbers) (E : Elements) (N : Queue) (out : List ℕ) where
  pub guarded_stopped : eqb n.stopped 0 ≡ false → guarded P e n E N out ≡ refused_with already_stopped n E N out
  unfolding guarded
  guarded_stopped f = when_false _ _ _ f

  pub guarded_going : eqb n.stopped 0 ≡ true → guarded P e n E N out ≡ marked (step P e n E N out)
  unfolding guarded
  guarded_going t = when_true _ _ _ t

  pub guard_stopped :
      (k : ℕ) (r : Result ℕ Refusal) (n' : Numbers) → k ≡ n.stopped → (k ≡ 0 → ⊥) → r ≡ Err Stopped →
      n' ≡ marked_by already_stopped n → after (fault_in r) (listed_in r) n' E N out ≡ guarded P e n E N out
  unfolding guarded
  guard_stopped k r n' is f given m =
      when_no _ _ _ _ (ne_eqb n.stopped 0 (λ z. f (is ∙ z)))
      (ap₂ (λ (x : Result ℕ Refusal) (y : Numbers). after (fault_in x) (listed_in x) y E N out) given
      (m ∙ marked_other already_stopped n (unfold stops in refl)))

  pub guard_step :
      (k refusal listed : ℕ) (n₁ n' : Numbers) (E' : Elements) (N' : Queue) (out' : List ℕ) → k ≡ n.stopped → k ≡ 0 →
      after refusal listed n₁ E' N' out' ≡ step P e n E N out → n' ≡ marked_by refusal n₁ → after refusal listed n' E' N' out' ≡ guarded P e n E N out
  unfolding guarded
  guard_step k refusal listed n₁ n' E' N' out' is z stepped m =
      when_yes _ _ _ _ (eq-eqb n.stopped 0 (sym is ∙ z)) (ap (λ (x : Numbers). after refusal listed x E' N' out') m ∙ ap marked stepped)

  Kept : After → Type 0
  Kept a = (a.refusal ≡ 0 → ⊥) → a ≡ refused_with a.refusal (marked_by a.refusal n) E N out

  kept_step : Kept (marked (step P e n E N out))
  unfolding Kept
  kept_step f = ap marked (refused_same P n E N out e (step P e n E N out) refl f)

  kept_stopped : Kept (refused_with already_stopped n E N out)
  unfolding Kept
  kept_stopped f = ap (λ (m : Numbers). refused_with already_stopped m E N out) (sym (marked_other already_stopped n (unfold stops in refl)))

  kept_guarded : Kept (guarded P e n E N out)
  unfolding guarded
  kept_guarded = when_either Kept (eqb n.stopped 0) _ _ kept_step kept_stopped

  pub refused_marked :
      (a : After) → a ≡ guarded P e n E N out → (a.refusal ≡ 0 → ⊥) → a ≡ refused_with a.refusal (marked_by a.refusal n) E N out
  unfolding Kept
  refused_marked a is = subst Kept (sym is) kept_guarded

  SaidAfter : After → Type 0
  SaidAfter a = Said a.numbers

  pub guarded_said : Said n → Said (guarded P e n E N out).numbers
  unfolding guarded SaidAfter
  guarded_said said =
      when_either SaidAfter (eqb n.stopped 0) _ _ (marked_said _ _ (step_said P n E N out said e)) said
