-- What an event leaves.
--
--   refused_same      a refused event leaves all as it was
--   step_still        whether the session is stopped stays as it was
--   step_said         what is said by 0 or not 0 is said by 0 or 1, if it was before
--
-- Assumes nothing.
use Rattle.std.specs.Prelude.{ℕ, ◌-◌, ◌≡◌, Option, None, Some, List, eqb}
use Rattle.std.proofs.Common.{arith, sym}
use Rattle.std.proofs.Math.Path.{refl, subst}
use Rattle.choice.specs.When.{when_either}
use Rattle.choice.specs.Count.{bool_byte_le}
use Rattle.meaning.specs.Refusals.{bad_record, too_many_held}
use Rattle.records.specs.declared.Event.{Event}
use Rattle.records.specs.declared.Event.TheVariants.{Open, Close}
use Rattle.plan.specs.Plan.{Plan}
use Rattle.element.specs.Element.{Elements}
use Rattle.node.specs.Node.{Queue}
use Rattle.numbers.specs.Numbers.{Numbers, Said}
use Rattle.tally.specs.Tally.{refuse_open, refuse_close, open_numbers, close_numbers}
use Rattle.step.specs.Step.{After, refused_with, open_taken, on_open, close_taken, on_close, step}

-- an event is refused, or an open or a close that nothing refuses: what holds of these three holds of any
module _ (P : Plan) (n : Numbers) (E : Elements) (N : Queue) (out : List ℕ) (Q : After → Type 0) (refused : (r : ℕ) → Q (refused_with r n E N out))
    (opened : (x : ℕ) → Q (open_taken P x n E N out)) (closed : Q (close_taken P n E N out)) where
  any_step : (e : Option Event) → Q (step P e n E N out)
  unfolding step on_open on_close
  any_step (Some (Open x)) = when_either Q _ _ _ (when_either Q _ _ _ (refused too_many_held) (opened x)) (refused (refuse_open n))
  any_step (Some (Close x)) = when_either Q _ _ _ closed (refused (refuse_close n E x))
  any_step None = refused bad_record

module _ (P : Plan) (n : Numbers) (E : Elements) (N : Queue) (out : List ℕ) where
  pub refused_same :
      (e : Option Event) (a : After) → a ≡ step P e n E N out → (a.refusal ≡ 0 → ⊥) → a ≡ refused_with a.refusal n E N out
  unfolding open_taken close_taken
  refused_same e a is =
      subst Kept (sym is) (any_step P n E N out Kept (λ r f. refl) (λ x f. absurd (f refl)) (λ f. absurd (f refl)) e)
    where
      Kept : After → Type 0
      Kept c = (c.refusal ≡ 0 → ⊥) → c ≡ refused_with c.refusal n E N out

  -- whether the session is stopped
  pub step_still : (e : Option Event) → (step P e n E N out).numbers.stopped ≡ n.stopped
  unfolding open_taken close_taken open_numbers close_numbers
  step_still = any_step P n E N out Still (λ r. refl) (λ x. refl) refl
    where
      Still : After → Type 0
      Still a = a.numbers.stopped ≡ n.stopped

  -- what is said by 0 or not 0
  pub step_said : Said n → (e : Option Event) → Said (step P e n E N out).numbers
  unfolding open_taken close_taken open_numbers close_numbers
  step_said said =
      any_step P n E N out SaidAfter (λ r. said) (λ x. record { ended = omega arith; stopped = said.stopped })
      (record { ended = bool_byte_le (eqb (n.depth - 1) 0); stopped = said.stopped })
    where
      SaidAfter : After → Type 0
      SaidAfter a = Said a.numbers
