-- The length, and then what an event on the session's bytes gives (Exported.Offered). Assumes nothing.
use Rattle.std.proofs.Common.{rules, ℕ, List}
use Rattle.std.proofs.Math.Path.{ap₂}
use native.Mathlib.Omega.{arith}
use mathlib.Core.Path.{sym, ◌∙◌}
use Rattle.numbers.specs.Numbers.{numbers_in}
use Rattle.numbers.specs.Numbers.Laws as numbers
use Rattle.plan_bytes.specs.Kept.{kept_in}
use Rattle.feed.specs.Steps.{seat}
use Rattle.offer.specs.Offer.{offered}
use Rattle.session_c.proofs.Laid.Laws.{room_is}
use Rattle.session_c.proofs.Exported.Laws.{takes_none}
use Rattle.session_c.proofs.Exported.Offered.{takes_parts}
use Rattle.session_c.proofs.compassflare_event.Goals as goal

pub returns-then-session-ne-ROOM : goal.returns-then-session-ne-ROOM
returns-then-session-ne-ROOM c = takes_none c.args.session.now c.args.bytes.now c.args.elements.now c.args.nodes.now c.args.out.now
    (λ e. c.if-session-ne-ROOM.true (e ∙ room_is))

pub unwrap-requires : goal.unwrap-requires
unwrap-requires c = c.as_array.ensures.variant.1 (omega (arith, c.split_at_mut-kept.ensures.front_len))

pub unwrap-requires-2 : goal.unwrap-requires-2
unwrap-requires-2 c = c.as_mut_array.ensures.variant.1 (omega (arith, c.split_at_mut-kept.ensures.back_len, c.if-session-ne-ROOM.false))

pub returns : goal.returns
returns c = let split = c.split_at_mut-kept.ensures in
    takes_parts c.args.session.now c.args.bytes.now c.args.elements.now c.args.nodes.now c.args.out.now (c.if-session-ne-ROOM.false ∙ sym room_is)
    c.are_bytes.ensures c.split_at_mut-kept.result.0.now c.split_at_mut-kept.result.1.now _ _ _ c.offer-r.new.numbers _ _ _ split.front split.back
    (omega (arith, numbers.room_is, split.back_len, c.if-session-ne-ROOM.false)) (λ i. (c.type_inv.session i).fits)
    (c.offer-r.ensures
    ∙ ap₂ (λ (k ns : List ℕ). offered (kept_in k) (seat (numbers_in ns) c.args.elements.now c.args.nodes.now) c.args.bytes.now c.args.out.now)
    (search (rules, c.as_array.ensures.cases, c.unwrap.ensures)) (search (rules, c.as_mut_array.ensures.cases, c.unwrap-2.ensures)))
    c.answer_event.ensures
