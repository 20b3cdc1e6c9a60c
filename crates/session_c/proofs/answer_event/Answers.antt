-- The count, or the refusal. Assumes nothing.
use native.Mathlib.Omega.{arith}
use Rattle.std.specs.Prelude.{ℕ, Result}
use mathlib.Core.Path.{refl, sym, ap, ◌∙◌}
use borrow.Author.Tests.{ne_eqb}
use Rattle.choice.specs.When.{when_yes, when_no}
use Rattle.limits.specs.declared.Refusal.{Refusal}
use Rattle.limits.specs.Number.{fault_in}
use Rattle.limits.specs.Number.Laws.{some_number}
use Rattle.step.specs.Step.{listed_in}
use Rattle.session_c.specs.Exported.Offered.{event_number}
use Rattle.session_c.proofs.answer_event.Goals as goal

pub returns-in-Ok : goal.returns-in-Ok
unfolding event_number
returns-in-Ok c = when_yes _ _ _ _ refl refl ∙ sym (ap (λ (r : Result ℕ Refusal). event_number (fault_in r) (listed_in r)) c.in-Ok.is)

pub returns-in-Err : goal.returns-in-Err
unfolding event_number
returns-in-Err c = c.number.ensures ∙ when_no _ _ _ _ (ne_eqb _ 0 (λ z. omega (arith, some_number c.in-Err.refusal))) refl
    ∙ sym (ap (λ (r : Result ℕ Refusal). event_number (fault_in r) (listed_in r)) c.in-Err.is)
