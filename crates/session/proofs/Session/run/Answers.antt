-- What stands in the way of any event, then the needed part of the room. Assumes nothing.
use Rattle.std.proofs.Common.{rules, arith, ◌∙◌, ℕ, List}
use Rattle.std.proofs.Math.Path.{ap₂}
use Rattle.meaning.proofs.Limits.Laws.{output_is, elements_is, nodes_is}
use Rattle.session.specs.Run.{run_within}
use Rattle.session.specs.Run.Laws.{run_few, run_short, run_small, run_parts}
use Rattle.session.proofs.Session.run.Goals as goal

pub returns-then-events-lt8 : goal.returns-then-events-lt8
returns-then-events-lt8 c = let stays = run_few c.args.self c.args.events.now c.args.elements.now c.args.nodes.now c.args.out.now _ c.stays.ensures
    c.if-events-lt8.true in
    record { run_gives = stays.0; taken_in_bounds = stays.1 }

pub returns-then-out-lt-OUTPUT : goal.returns-then-out-lt-OUTPUT
returns-then-out-lt-OUTPUT c = let stays = run_short c.args.self c.args.events.now c.args.elements.now c.args.nodes.now c.args.out.now _
    c.stays-then-out-lt-OUTPUT.ensures
    (omega (arith, output_is)) in
    record { run_gives = stays.0; taken_in_bounds = stays.1 }

pub returns-in-Err : goal.returns-in-Err
returns-in-Err c = let stays = run_small c.args.self c.args.events.now c.args.elements.now c.args.nodes.now c.args.out.now _ _
    c.stays-in-Err.ensures c.in-Err.ensures.fault c.if-events-lt8.false (omega (arith, output_is)) in
    record { run_gives = stays.0; taken_in_bounds = stays.1 }

pub unwrap-requires : goal.unwrap-requires
unwrap-requires c = c.first_chunk_mut.ensures.variant.1 (omega (arith, elements_is, c.in-Ok.ensures.fits.deep))

pub unwrap-requires-in-Ok : goal.unwrap-requires-in-Ok
unwrap-requires-in-Ok c = c.first_chunk_mut-in-Ok.ensures.variant.1 (omega (arith, nodes_is, c.in-Ok.ensures.fits.held))

pub returns-in-Ok : goal.returns-in-Ok
returns-in-Ok c = let fits = c.in-Ok.ensures.fits in
    record {
      run_gives = run_parts c.args.self c.args.events.now c.args.elements.now c.args.nodes.now c.args.out.now _ _ elements_is nodes_is
          (omega (arith, elements_is, fits.deep)) (omega (arith, nodes_is, fits.held)) _ _ _ _
          (c.run_within.ensures.out_after
          ∙ ap₂ (λ (E N : List ℕ). run_within c.args.self c.args.events.now E N c.args.out.now)
          (search (rules, c.first_chunk_mut.ensures.cases, c.unwrap.ensures))
          (search (rules, c.first_chunk_mut-in-Ok.ensures.cases, c.unwrap-in-Ok.ensures)));
      taken_in_bounds = c.run_within.ensures.taken_in_bounds;
    }
