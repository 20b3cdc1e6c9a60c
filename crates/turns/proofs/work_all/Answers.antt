-- `turns::work_all` meets its contract and ends. The invariant: what the turns have come to so far, for the query that the session was begun with.
-- Assumes nothing.
use Rattle.std.proofs.Common.{length, refl, sym, ◌∙◌, arith}
use Rattle.meaning.proofs.Answer.Laws.{not_small}
use Rattle.turns.specs.Turns.Laws.{begun_so_far, turn_so_far, turn_within, turn_less, so_far_few, so_far_streamed}
use Rattle.turns.proofs.work_all.Goals as goal

pub turns-init : goal.turns-init
turns-init c =
    let a = c.args in
    let room = c.requires.elements_needed_in_bounds in
    let enough = not_small (length a.elements.now) (length a.nodes.now) room.0 room.1 in (
      ((refl, (refl, refl)), (refl, refl)),
      (
        record { forward = omega arith; inside = omega arith },
        λ b o. begun_so_far a.file.now a.session a.input.now a.elements.now a.nodes.now enough (o a.elements.now a.nodes.now),
      ),
    )

pub take_turn-state-requires : goal.take_turn-state-requires
take_turn-state-requires c =
    let begun = c.requires.output_needed_in_bounds.1 in
    let inv = c.turns.invariant in
    record {
      unread_within = (inv.1.0, omega arith);
      in_bounds = ((omega arith, omega arith), so_far_few (inv.1.1 begun.query begun.begun));
    }

pub turns-smaller : goal.turns-smaller
turns-smaller c =
    let begun = c.requires.output_needed_in_bounds.1 in
    let l = c.turns in
    let u = l.invariant.1.1 begun.query begun.begun in
    turn_less l.state l.input l.elements l.nodes u (sym c.more_to_do.ensures ∙ c.turns-test.true) l.invariant.1.0
    (length c.args.input.now) l.out _ _ _ _ (omega arith) (omega arith) (omega arith)
    c.take_turn-state.ensures

pub turns-preserved : goal.turns-preserved
turns-preserved c =
    let l = c.turns in
    let more = sym c.more_to_do.ensures ∙ c.turns-test.true in
    let turned = c.take_turn-state.ensures in (
      ((omega arith, (omega arith, omega arith)), (omega arith, omega arith)),
      (
        turn_within l.state l.input l.elements l.nodes l.out _ _ _ _ turned,
        λ b o. turn_so_far l.state l.input l.elements l.nodes (l.invariant.1.1 b o) more l.invariant.1.0 l.out _ _ _ _ turned,
      ),
    )

pub returns : goal.returns
returns c =
    let begun = c.requires.output_needed_in_bounds.1 in
    let u = c.turns.invariant.1.1 in
    let stop = sym c.more_to_do.ensures ∙ c.turns-test.false in
    record {
      few = so_far_few (u begun.query begun.begun);
      streamed = λ t b o. so_far_streamed (u b o) stop t;
      failed = λ t. (u begun.query begun.begun).events.failed t;
    }
