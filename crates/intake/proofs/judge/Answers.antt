-- `intake::judge` meets its contract. Assumes nothing.
use Rattle.std.specs.Prelude.{ℕ, ◌+◌, ◌≡◌, None}
use Rattle.std.proofs.Common.{refl, sym, ap, ◌∙◌, eq-eqb, ne_eqb, inl, inr, subst}
use Rattle.choice.specs.When.{when_yes, when_no, when_either}
use Rattle.intake.specs.declared.Intake.{Intake}
use Rattle.intake.specs.Intake.{end_of, verdict_for}
use Rattle.intake.specs.Owed.{refused_at, Named, TextNumber, text_named}
use Rattle.intake.proofs.judge.Goals as goal

none_is : (i : Intake) (q : ℕ) → q ≡ end_of i.reader i.refusal → q ≡ 0 → None ≡ verdict_for i
unfolding verdict_for
none_is i q e z = when_yes _ _ _ _ (eq-eqb _ _ (sym e ∙ z)) refl

some_is : (i : Intake) (q : ℕ) → q ≡ end_of i.reader i.refusal → (q ≡ 0 → ⊥) → refused_at q (i.taken + 1) ≡ verdict_for i
unfolding verdict_for
some_is i q e z = when_no _ _ _ _ (ne_eqb _ _ (λ y. z (e ∙ y))) (ap (λ (k : ℕ). refused_at k (i.taken + 1)) e)

named_by : (q : ℕ) → TextNumber q → (q ≡ 0 → ⊥) → Named q
named_by q (inl e) z = absurd (z e)
named_by q (inr n) z = n

some_named : (i : Intake) (q : ℕ) → q ≡ end_of i.reader i.refusal → (q ≡ 0 → ⊥) → TextNumber i.refusal → Named q
unfolding end_of
some_named i q e z h = named_by q (subst TextNumber (sym e) (when_either TextNumber _ _ _ (text_named _) h)) z

pub returns-then-refusal-eq0 : goal.returns-then-refusal-eq0
returns-then-refusal-eq0 c = record { verdict = none_is _ _ c.ending-refusal.ensures c.if-refusal-eq0.true; named = λ h. tt }

pub returns : goal.returns
returns c =
    record {
      verdict = some_is c.args.intake _ c.ending-refusal.ensures c.if-refusal-eq0.false;
      named = λ h. some_named c.args.intake _ c.ending-refusal.ensures c.if-refusal-eq0.false h;
    }
