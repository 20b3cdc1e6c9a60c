-- The two cases. Assumes nothing.
use native.Mathlib.Omega.{arith}
use Rattle.std.specs.Prelude.{ℕ, Result}
use mathlib.Core.Path.{refl, sym, ap, ◌∙◌}
use borrow.Author.Tests.{ne_eqb}
use Rattle.choice.specs.When.{when_yes, when_no}
use Rattle.limits.specs.declared.Refusal.{Refusal}
use Rattle.limits.specs.Number.{fault_in}
use Rattle.limits.specs.Number.Laws.{some_number}
use Rattle.step.specs.Step.{listed_in}
use Rattle.session.specs.declared.Answer.TheVariants as answers
use Rattle.session.specs.Event.{answer_by}
use Rattle.session.proofs.AnswerFromResultU32Refusal.from.Goals as goal

pub returns-in-Ok : goal.returns-in-Ok
unfolding answer_by
returns-in-Ok c = when_yes _ _ _ _ refl refl ∙ sym (ap (λ (r : Result ℕ Refusal). answer_by (fault_in r) (listed_in r)) c.in-Ok.is)

pub returns-in-Err : goal.returns-in-Err
unfolding answer_by
returns-in-Err c = ap answers.Refused c.number.ensures ∙ when_no _ _ _ _ (ne_eqb _ 0 (λ z. omega (arith, some_number c.in-Err.refusal))) refl
    ∙ sym (ap (λ (r : Result ℕ Refusal). answer_by (fault_in r) (listed_in r)) c.in-Err.is)
