-- The invariant says that the events so far are a first part of the block (Fed.Laws). Assumes nothing.
use Rattle.std.proofs.Common.{rules, arith, refl, ap, sym, ◌∙◌, ◌*◌, length, length-drop}
use Rattle.meaning.proofs.Limits.Laws.{output_is}
use Rattle.limits.specs.Number.Laws.{some_number}
use Rattle.feed.specs.Fed.Laws.{none_unrefused, taken_underway, underway_refused, underway_short, unrefused_done, rest_after, rest_wide}
use Rattle.feed.proofs.feed.Goals as goal

pub loop-taken-init : goal.loop-taken-init
loop-taken-init c = record {
  next = search rules;
  finite = search rules;
  size = search rules;
  rest = search rules;
  underway = rw (c.into_iter-taken-iterator.ensures.into_iter_gives, c.enumerate-taken-items.ensures.count) (none_unrefused _ _ _ _);
}

pub returns-then-out-from-lt-OUTPUT-clause-feed_gives : goal.returns-then-out-from-lt-OUTPUT-clause-feed_gives
returns-then-out-from-lt-OUTPUT-clause-feed_gives c =
    underway_short _ _ _ _ _ c.loop-taken.invariant.underway _ c.in-Some.ensures.steps.1 (omega (arith, output_is))

pub take-requires : goal.take-requires
take-requires c = rest_wide (4 * c.loop-taken.listed) _ c.loop-taken.out (omega (arith, output_is))

pub loop-taken-preserved : goal.loop-taken-preserved
loop-taken-preserved c =
    let l = c.loop-taken in
    let steps = c.in-Some.ensures.steps in
    let cut = sym l.invariant.rest ∙ steps.0.1.0 in
    let eight = steps.0.1.1 ∙ l.invariant.size in
    record {
      next = search rules;
      finite = search rules;
      size = search rules;
      rest = rw steps.2 (sym (rest_after l.taken-iterator.count c.args.events.now _ _ cut eight));
      underway =
          rw steps.2
          (taken_underway _ _ _ _ _ l.invariant.underway (omega (arith, output_is)) _ _ cut eight _ _ (search rules) _
          c.in-Ok.ensures.event_came
          c.in-Ok.ensures.listed_bound);
    }

pub returns-in-Err-clause-feed_gives : goal.returns-in-Err-clause-feed_gives
returns-in-Err-clause-feed_gives c =
    let l = c.loop-taken in
    let steps = c.in-Some.ensures.steps in
    underway_refused _ _ _ _ _ l.invariant.underway (omega (arith, output_is)) _ _ (sym l.invariant.rest ∙ steps.0.1.0)
    (steps.0.1.1 ∙ l.invariant.size) _ _ (search rules) _ _ (λ z. omega (arith, some_number c.in-Err.refusal)) steps.1
    c.in-Err.ensures.event_came

pub returns-clause-feed_gives : goal.returns-clause-feed_gives
returns-clause-feed_gives c =
    let inv = c.loop-taken.invariant in
    unrefused_done _ _ _ _ _ inv.underway _
    (omega (
      arith,
      ap length inv.rest,
      length-drop (8 * c.loop-taken.taken-iterator.count) c.args.events.now,
      c.in-None.ensures.steps.0.1.0,
      inv.size,
      inv.underway.within,
    ))
    refl
