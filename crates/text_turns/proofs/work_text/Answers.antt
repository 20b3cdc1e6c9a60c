-- `text_turns::work_text` meets its contract and ends. The invariant: what the turns have come to so far, for the query that the session was begun with.
-- Assumes nothing.
use Rattle.std.proofs.Common.{rules}
use native.Mathlib.Omega.{arith}
use mathlib.Core.Path.{refl, sym, ◌∙◌}
use lib.ListN.{length}
use Rattle.meaning.proofs.Limits.Laws.{output_is}
use Rattle.meaning.proofs.Answer.Laws.{not_small}
use Rattle.slots.specs.Slots.Laws.{room_is}
use Rattle.turns.specs.Progress.Laws.{progress_few}
use Rattle.text_turns.specs.Stand.{more_is, done_is}
use Rattle.text_turns.specs.SoFar.{begun_as, started_as, begun_for_as, refill_so_far, turn_so_far, turn_less}
use Rattle.text_turns.specs.Over.{over_picked}
use Rattle.intake.specs.Intake.Laws.{lent_enough}
use Rattle.text_turns.proofs.work_text.Goals as goal

pub turns-init : goal.turns-init
turns-init c =
    let a = c.args in
    let enough = not_small (length a.elements.now) (length a.nodes.now) c.requires.elements_needed_in_bounds.0 c.requires.elements_needed_in_bounds.1 in (
      ((refl, (refl, (refl, refl))), (refl, (refl, refl))),
      begun_as a.names.now a.index.now a.file.now a.session _ c.begin-stand.ensures _ _ _ a.elements.now a.nodes.now
          (omega (arith, room_is)) enough,
    )

pub refill-requires : goal.refill-requires
refill-requires c =
    let u = c.turns.invariant.1 in
    record { within_text = u.in_text.within; input_len_bound = (omega arith, omega (arith, u.in_text.few)) }

pub slice_bounds-work_block-end-in-turns : goal.slice_bounds-work_block-end-in-turns
slice_bounds-work_block-end-in-turns c =
    let l = c.turns in
    sym l.invariant.0.0.1.1.1

pub work_block-state-requires : goal.work_block-state-requires
work_block-state-requires c =
    let l = c.turns in
    let more = more_is l.stand.intake l.stand.state (sym c.more_to_do.ensures ∙ c.turns-test.true) in
    let lent =
    lent_enough (length l.room) (length c.args.index.now) (length l.events) (omega (arith, room_is, l.invariant.0.0.1.0)) c.requires.in_bounds.1.0
    (omega (arith, l.invariant.0.0.1.1.0)) in
    let y = refill_so_far _ _ _ _ _ _ _ _ _ _ l.invariant.1 more _ _ _ _ lent (search rules) (omega (arith, l.invariant.0.0.0)) c.refill.ensures in
    let begun = started_as _ _ c.begin-stand.ensures c.requires.in_bounds.1.1 in
    record {
      unread_within = (y.so_far.within, omega (arith, l.invariant.0.0.1.1.1, l.invariant.0.1.1.1, c.requires.in_bounds.0));
      input_len_bound = (omega arith, progress_few (y.so_far.worked begun.query begun.begun).offered);
    }

pub turns-smaller : goal.turns-smaller
turns-smaller c =
    let l = c.turns in
    let more = more_is l.stand.intake l.stand.state (sym c.more_to_do.ensures ∙ c.turns-test.true) in
    let lent =
    lent_enough (length l.room) (length c.args.index.now) (length l.events) (omega (arith, room_is, l.invariant.0.0.1.0)) c.requires.in_bounds.1.0
    (omega (arith, l.invariant.0.0.1.1.0)) in
    let y = refill_so_far _ _ _ _ _ _ _ _ _ _ l.invariant.1 more _ _ _ _ lent (search rules) (omega (arith, l.invariant.0.0.0)) c.refill.ensures in
    let begun = started_as _ _ c.begin-stand.ensures c.requires.in_bounds.1.1 in
    turn_less _ _ _ _ _ _ _ _ _ _ l.invariant.1 more _ _ _ _ y begun.query begun.begun l.out _ _ _ c.work_block-state.ensures
    (omega arith) (omega (arith, output_is, l.invariant.0.0.1.1.1))

pub turns-preserved : goal.turns-preserved
turns-preserved c =
    let l = c.turns in
    let more = more_is l.stand.intake l.stand.state (sym c.more_to_do.ensures ∙ c.turns-test.true) in
    let lent =
    lent_enough (length l.room) (length c.args.index.now) (length l.events) (omega (arith, room_is, l.invariant.0.0.1.0)) c.requires.in_bounds.1.0
    (omega (arith, l.invariant.0.0.1.1.0)) in
    let y = refill_so_far _ _ _ _ _ _ _ _ _ _ l.invariant.1 more _ _ _ _ lent (search rules) (omega (arith, l.invariant.0.0.0)) c.refill.ensures in
    let begun = started_as _ _ c.begin-stand.ensures c.requires.in_bounds.1.1 in (
      (
        (search rules, (search rules, (search rules, search rules))),
        (omega arith, (omega arith, omega arith)),
      ),
      turn_so_far _ _ _ _ _ _ _ _ _ _ l.invariant.1 more _ _ _ _ y begun.query begun.begun l.out _ _ _ c.work_block-state.ensures,
    )

pub returns : goal.returns
returns c =
    let l = c.turns in
    let same = c.begin-stand.ensures in
    let begun = started_as _ _ same c.requires.in_bounds.1.1 in
    let u = l.invariant.1 in
    let stop = sym c.more_to_do.ensures ∙ c.turns-test.false in
    record {
      few = progress_few (u.worked begun.query begun.begun).offered;
      short = omega (arith, u.in_text.few);
      named = u.in_text.named;
      picked =
          λ t b o. over_picked _ _ _ _ _ _ _ _ _ _ u b (begun_for_as _ _ b same o) t (done_is _ _ stop t);
      failed = λ t. (u.worked begun.query begun.begun).failed t;
    }
