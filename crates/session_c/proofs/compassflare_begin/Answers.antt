-- The length, and then what the session gives (Exported.Laws). Assumes nothing.
use mathlib.Core.Path.{sym, ◌∙◌}
use Rattle.session_c.proofs.Laid.Laws.{room_is}
use Rattle.session_c.proofs.Exported.Laws.{begins_none, begins_parts}
use Rattle.session_c.proofs.compassflare_begin.Goals as goal

pub returns-then-session-ne-ROOM : goal.returns-then-session-ne-ROOM
returns-then-session-ne-ROOM c = begins_none c.args.query.now c.args.elements.now c.args.nodes.now c.args.session.now
    (λ e. c.if-session-ne-ROOM.true (e ∙ room_is))

pub answer_begin-requires : goal.answer_begin-requires
answer_begin-requires c = c.if-session-ne-ROOM.false ∙ sym room_is

pub returns : goal.returns
returns c = begins_parts c.args.query.now c.args.elements.now c.args.nodes.now c.args.session.now c.begin-begun.result _ _
    (c.if-session-ne-ROOM.false ∙ sym room_is) c.begin-begun.ensures c.answer_begin.ensures.0 c.answer_begin.ensures.1
