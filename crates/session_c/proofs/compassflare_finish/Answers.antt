-- The lengths, and then what the session gives (Exported.Laws). Assumes nothing.
use mathlib.Core.Path.{sym, ◌∙◌}
use Rattle.session_c.proofs.Laid.Laws.{room_is, counts_room_lem}
use Rattle.session_c.proofs.Exported.Laws.{finishes_none, finishes_uncounted, finishes_parts}
use Rattle.session_c.proofs.compassflare_finish.Goals as goal

pub returns-then-session-ne-ROOM : goal.returns-then-session-ne-ROOM
returns-then-session-ne-ROOM c = finishes_none c.args.session.now c.args.counts.now (λ e. c.if-session-ne-ROOM.true (e ∙ room_is))

pub returns-then-counts-ne-COUNTS : goal.returns-then-counts-ne-COUNTS
returns-then-counts-ne-COUNTS c = finishes_uncounted c.args.session.now c.args.counts.now (c.if-session-ne-ROOM.false ∙ sym room_is)
    (λ e. c.if-counts-ne-COUNTS.true (e ∙ counts_room_lem))

pub session_in-requires : goal.session_in-requires
session_in-requires c = c.if-session-ne-ROOM.false ∙ sym room_is

pub answer_finish-requires : goal.answer_finish-requires
answer_finish-requires c = c.if-counts-ne-COUNTS.false ∙ sym counts_room_lem

pub returns : goal.returns
returns c = finishes_parts c.args.session.now c.args.counts.now (c.if-session-ne-ROOM.false ∙ sym room_is) _ _ _ _
    (c.if-counts-ne-COUNTS.false ∙ sym counts_room_lem)
    c.session_in.ensures c.finish-answer.ensures c.answer_finish.ensures.0 c.answer_finish.ensures.1
