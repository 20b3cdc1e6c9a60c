-- `pick::answer` meets its contract. Assumes nothing.
use Rattle.std.proofs.Common.{inl, arith}
use borrow.Author.Rules.{rules}
use Rattle.meaning.proofs.Limits.Laws.{elements_is, nodes_is}
use Rattle.turns.specs.Owed.{answered_by}
use Rattle.pick.specs.Program.Laws.{refused_lined, admitted_lined}
use Rattle.pick.proofs.answer.Goals as goal

pub admit-requires : goal.admit-requires
admit-requires c = record { room = (omega (arith, elements_is), omega (arith, nodes_is)); text_long = omega arith }

pub answer_events-requires : goal.answer_events-requires
answer_events-requires c =
    record {
      elements_needed_in_bounds = (omega (arith, elements_is), omega (arith, nodes_is));
      in_bounds = (search rules, record { query = c.args.query.now; begun = c.in-Ok.ensures.ok.begun });
    }

pub returns-in-Ok : goal.returns-in-Ok
returns-in-Ok c =
    let query = c.in-Ok.ensures.ok in
    let events = c.answer_events.ensures in
    record {
      replied = answered_by (λ l. admitted_lined query.checked (l c.args.query.now query.begun)) events.events_answered;
      prefix_len = events.prefix_len;
    }

pub returns-in-Err : goal.returns-in-Err
returns-in-Err c = record { replied = inl (refused_lined c.in-Err.ensures.err); prefix_len = c.in-Err.ensures.err.prefix_len }
