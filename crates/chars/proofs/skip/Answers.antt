-- What is left to skip is the whole of it. Assumes nothing.
use native.Mathlib.Omega.{arith}
use mathlib.Core.Path.{◌≡◌, refl, sym, ◌∙◌}
use lib.ListN.{length}
use Rattle.chars.specs.Marks.Laws.{span_on, span_stop, span_end}
use Rattle.chars.proofs.skip.Goals as goal

pub loop-i-init : goal.loop-i-init
loop-i-init c = refl

pub returns-then-not-has : goal.returns-then-not-has
returns-then-not-has c =
    let a = c.args in
    sym (c.loop-i.invariant ∙ span_stop a.marks.now a.mark a.text.now c.loop-i.i (omega arith) (sym c.has.ensures ∙ c.if-not-has.true))

pub loop-i-preserved : goal.loop-i-preserved
loop-i-preserved c =
    let a = c.args in
    c.loop-i.invariant ∙ span_on a.marks.now a.mark a.text.now c.loop-i.i (omega arith) (sym c.has.ensures ∙ c.if-not-has.false)

pub returns : goal.returns
returns c =
    let a = c.args in
    let all : c.loop-i.i ≡ length a.text.now = omega arith in
    sym (c.loop-i.invariant ∙ span_end a.marks.now a.mark a.text.now c.loop-i.i (omega arith) ∙ all)
