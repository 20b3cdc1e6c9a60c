-- The lengths, and then what the session gives (Exported.Laws). Assumes nothing.
use mathlib.Core.Path.{sym, ap, ◌∙◌}
use Rattle.limits.specs.Number.{fault_of}
use Rattle.session_c.proofs.Laid.Laws.{room_is, counts_room_lem}
use Rattle.session_c.proofs.Exported.Laws.{runs_none, runs_uncounted, runs_parts}
use Rattle.session_c.proofs.compassflare_run.Goals as goal

pub returns-then-session-ne-ROOM : goal.returns-then-session-ne-ROOM
returns-then-session-ne-ROOM c = runs_none c.args.session.now c.args.events.now c.args.elements.now c.args.nodes.now c.args.out.now c.args.counts.now
    (λ e. c.if-session-ne-ROOM.true (e ∙ room_is))

pub returns-then-counts-ne-COUNTS : goal.returns-then-counts-ne-COUNTS
returns-then-counts-ne-COUNTS c = runs_uncounted c.args.session.now c.args.events.now c.args.elements.now c.args.nodes.now c.args.out.now c.args.counts.now
    (c.if-session-ne-ROOM.false ∙ sym room_is) (λ e. c.if-counts-ne-COUNTS.true (e ∙ counts_room_lem))

pub session_in-requires : goal.session_in-requires
session_in-requires c = c.if-session-ne-ROOM.false ∙ sym room_is

pub put_moved-requires : goal.put_moved-requires
put_moved-requires c = c.if-session-ne-ROOM.false ∙ sym room_is

pub put_counts-requires : goal.put_counts-requires
put_counts-requires c = c.if-counts-ne-COUNTS.false ∙ sym counts_room_lem

pub returns-in-None : goal.returns-in-None
returns-in-None c = runs_parts c.args.session.now c.args.events.now c.args.elements.now c.args.nodes.now c.args.out.now c.args.counts.now
    (c.if-session-ne-ROOM.false ∙ sym room_is) c.session_in.result c.run-ran.result _ _ _ _ _ _ (c.if-counts-ne-COUNTS.false ∙ sym counts_room_lem)
    c.session_in.ensures c.run-ran.ensures.run_gives c.put_moved.ensures c.put_counts.ensures (ap fault_of (sym c.in-None.is))

pub returns-in-Some : goal.returns-in-Some
returns-in-Some c = runs_parts c.args.session.now c.args.events.now c.args.elements.now c.args.nodes.now c.args.out.now c.args.counts.now
    (c.if-session-ne-ROOM.false ∙ sym room_is) c.session_in.result c.run-ran.result _ _ _ _ _ _ (c.if-counts-ne-COUNTS.false ∙ sym counts_room_lem)
    c.session_in.ensures c.run-ran.ensures.run_gives c.put_moved.ensures c.put_counts.ensures (c.number.ensures ∙ ap fault_of (sym c.in-Some.is))
