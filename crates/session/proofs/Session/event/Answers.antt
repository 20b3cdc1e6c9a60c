-- The session's numbers in bytes, an event on them, and the numbers back (Event.Laws). Assumes nothing.
use Rattle.session.specs.Event.Laws.{event_gives}
use Rattle.session.proofs.Session.event.Goals as goal

pub returns : goal.returns
returns c = event_gives c.args.self c.args.bytes.now c.args.elements.now c.args.nodes.now c.args.out.now _ _ _ _ _ _ _ c.lay.ensures
    c.offer-r.ensures _ _ c.from-answer.ensures c.numbered-next.ensures
