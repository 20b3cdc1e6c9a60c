-- The numbers are laid in bytes and read again (Run.Laws). Assumes nothing.
use Rattle.session.specs.Run.Laws.{run_within_lem}
use Rattle.session.proofs.Session.run_within.Goals as goal

pub returns : goal.returns
returns c = record {
  out_after = run_within_lem c.args.self _ c.args.events.now c.args.elements.now c.args.nodes.now c.args.out.now _ _ _ _ _ _ _ _
      c.lay.ensures
      c.numbered-last.ensures c.feed-fed.ensures.feed_gives;
  taken_in_bounds = c.feed-fed.ensures.taken_in_bounds;
}
