-- What is left to read is the whole of it. Assumes nothing.
use Rattle.std.proofs.Common.{rules}
use native.Mathlib.Omega.{arith}
use mathlib.Core.Path.{refl, sym, ◌∙◌}
use Rattle.emit.specs.Emit.{written_within}
use Rattle.reader.specs.Fed.{read_on}
use Rattle.reader.specs.Fed.Laws.{more_is, left_begin, left_on, left_done, at_within, less}
use Rattle.reader.proofs.read_on.Goals as goal

pub loop-marks-init : goal.loop-marks-init
loop-marks-init c = (omega arith, omega arith, refl, refl, left_begin _ _ _ _ _ _)

pub emit-written-requires : goal.emit-written-requires
emit-written-requires c =
    let more = more_is _ _ _ _ _ (sym c.more.ensures ∙ c.loop-marks-test.true) in
    (search rules, omega (arith, more.room))

pub loop-marks-smaller : goal.loop-marks-smaller
loop-marks-smaller c =
    let a = c.args in
    let on = sym c.more.ensures ∙ c.loop-marks-test.true in
    less a.names.now a.index.now a.text.now _ _ c.loop-marks.invariant.4 on c.loop-marks.invariant.0 _ c.turn-gone.ensures

pub loop-marks-preserved : goal.loop-marks-preserved
loop-marks-preserved c =
    let a = c.args in
    let on = sym c.more.ensures ∙ c.loop-marks-test.true in
    let l = c.loop-marks.invariant.4 in
    let within = at_within a.names.now a.index.now a.text.now _ _ l on c.loop-marks.invariant.0 _ c.turn-gone.ensures in
    let left = left_on a.names.now a.index.now a.text.now _ _ l on c.loop-marks.invariant.0 _ c.turn-gone.ensures _ c.emit-written.ensures in
    let room = (more_is _ _ _ _ _ on).room in
    let two = written_within a.names.now a.index.now _ _ _ _ _ c.emit-written.ensures in
    (within, omega (arith, room, two, c.loop-marks.invariant.1, c.loop-marks.invariant.3), search rules, search rules, left)

pub returns : goal.returns
unfolding read_on
returns c =
    let a = c.args in
    (sym (left_done a.names.now a.index.now a.text.now _ _ c.loop-marks.invariant.4 (sym c.more.ensures ∙ c.loop-marks-test.false)), c.refusal_of.ensures)
