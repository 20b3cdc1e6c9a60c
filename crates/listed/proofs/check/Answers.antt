-- `check` goes through the lines; the first at fault decides. The invariant: the answer to the lines from here on is that to the list.
-- Assumes nothing.
use native.Mathlib.Omega.{arith}
use mathlib.Core.Path.{◌≡◌, refl, sym, ◌∙◌}
use Rattle.limits.specs.Number.{text_number}
use Rattle.limits.specs.Number.Laws.{some_text}
use Rattle.listed.specs.Listed.{list_answer}
use Rattle.listed.proofs.Turn.{turn_stops, turn_goes_on, turns_done, few_enough}
use Rattle.listed.proofs.check.Goals as goal

pub loop-at-init : goal.loop-at-init
unfolding list_answer
loop-at-init c = (omega arith, refl)

pub returns-in-Err : goal.returns-in-Err
returns-in-Err c =
    let told = c.in-Err.ensures in
    let some : text_number c.in-Err.refusal ≡ 0 → ⊥ = λ e. omega (arith, some_text c.in-Err.refusal) in
    sym (turn_stops c.args.names.now c.loop-at.at _ c.loop-at.place _ (omega arith) c.line_end-end.ensures told some) ∙ c.loop-at.invariant.1

pub loop-at-preserved : goal.loop-at-preserved
loop-at-preserved c =
    let told = c.in_default.ensures in (
      omega (arith, few_enough _ _ (sym told)),
      sym (turn_goes_on c.args.names.now c.loop-at.at _ c.loop-at.place _ (omega arith) c.line_end-end.ensures told refl) ∙ c.loop-at.invariant.1,
    )

pub returns : goal.returns
returns c =
    sym (turns_done c.args.names.now c.loop-at.at c.loop-at.place (omega arith)) ∙ c.loop-at.invariant.1
