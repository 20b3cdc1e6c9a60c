-- `put_number` puts the numeral, the last digit first. The invariant: what is left of the number, put into the text as it stands, makes it what it has to be.
-- Assumes nothing.
use Rattle.std.proofs.Common.{◌≤◌, arith, ◌∙◌}
use Rattle.lines.proofs.Decimal.Laws.{length_more, length_some, under_ten, over_ten}
use Rattle.lines.proofs.Put.Laws.{digit_put, digit_last}
use Rattle.lines.proofs.put_number.Goals as goal

pub loop-i-preserved : goal.loop-i-preserved
loop-i-preserved c =
    let l = c.loop-i in
    let more : 10 ≤ l.rest = over_ten l.rest (omega arith) in
    (omega (arith, length_more l.rest more), digit_put l.text c.args.at l.rest l.i more l.invariant.0 ∙ l.invariant.1)

pub overflow_cast-text-2 : goal.overflow_cast-text-2
overflow_cast-text-2 c = omega (arith, under_ten c.loop-i.rest (omega arith))

pub overflow_add-text-2 : goal.overflow_add-text-2
overflow_add-text-2 c = omega (arith, under_ten c.loop-i.rest (omega arith))

pub bounds-text-at : goal.bounds-text-at
bounds-text-at c = omega (arith, length_some c.args.n)

pub returns : goal.returns
returns c =
    let l = c.loop-i in
    record { text = digit_last l.text c.args.at l.rest (under_ten l.rest (omega arith)) ∙ l.invariant.1; end = omega arith }
