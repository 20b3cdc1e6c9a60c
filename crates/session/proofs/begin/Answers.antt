-- The answer, and the session beside it (Begin.Laws). Assumes nothing.
use mathlib.Core.Path.{sym, ap, ◌∙◌}
use mathlib.Core.Bool.{true, false}
use mathlib.Core.List.{List}
use Prim.Native.Nat.{ℕ}
use denote.Bor.{Bor}
use Rattle.choice.specs.When.{when}
use Rattle.session.specs.Begin.{fresh}
use Rattle.session.specs.Begin.Laws.{session_beside, begin_parts}
use Rattle.session.proofs.begin.Goals as goal
use Rattle.session.proofs.begin.Goals.{then-is_ok, else-is_ok}

pub returns : goal.returns
unfolding when
returns c = begin_parts c.args.query.now c.args.elements.now c.args.nodes.now _ _ c.check-answer.ensures
    (c.fresh-session.ensures ∙ ap fresh c.plan_of.ensures
    ∙ (elim c.if-is_ok.branch [
      | then-is_ok w ↦ session_beside _ _ _ true (sym w.if-is_ok.ensures.value) (ap (λ (b : Bor (List ℕ)). b.now) w.steps-is)
      | else-is_ok w ↦ session_beside _ _ _ false (sym w.if-is_ok.ensures.value) (ap (λ (b : Bor (List ℕ)). b.now) w.steps-is)
    ]))
