-- The needed part of the room; refusals 1 and 15 are found. Assumes nothing.
use Rattle.std.proofs.Common.{rules, arith, ◌∙◌, ℕ, List}
use Rattle.std.proofs.Math.Path.{ap₂}
use Rattle.lent.specs.Lent.Laws.{room_fits}
use Rattle.meaning.proofs.Limits.Laws.{elements_is, nodes_is}
use Rattle.numbers.specs.Numbers.{numbers_in}
use Rattle.plan_bytes.specs.Kept.{kept_in}
use Rattle.feed.specs.Steps.{seat, came, step_at}
use Rattle.offer.specs.Offer.Laws.{offer_parts}
use Rattle.offer.proofs.offer.Goals as goal

pub unwrap-requires : goal.unwrap-requires
unwrap-requires c = let fits = c.in_ok-check_lent.ensures.fits in c.first_chunk_mut.ensures.variant.1 (omega (arith, elements_is, fits.room.deep))

pub unwrap-requires-2 : goal.unwrap-requires-2
unwrap-requires-2 c = let fits = c.in_ok-check_lent.ensures.fits in c.first_chunk_mut-2.ensures.variant.1 (omega (arith, nodes_is, fits.room.held))

pub returns : goal.returns
returns c =
    let fits = c.in_ok-check_lent.ensures.fits in
    offer_parts (kept_in c.args.kept.now) (seat (numbers_in c.args.numbers.now) c.args.elements.now c.args.nodes.now) c.args.bytes.now c.args.out.now
    (came _ _ (seat _ _ _) _) _ _ elements_is nodes_is fits.wide (room_fits _ _ fits.room)
    (c.take.ensures.event_came
    ∙ ap₂ (λ (E N : List ℕ). step_at (kept_in c.args.kept.now) (seat (numbers_in c.args.numbers.now) E N) c.args.bytes.now c.args.out.now)
    (search (rules, c.first_chunk_mut.ensures.cases, c.unwrap.ensures)) (search rules))
