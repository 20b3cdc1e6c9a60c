-- `pick_xml::answer` meets its contract. Assumes nothing.
use Rattle.std.proofs.Common.{inl, arith}
use borrow.Author.Rules.{rules}
use Rattle.meaning.proofs.Limits.Laws.{elements_is, nodes_is}
use Rattle.turns.specs.Owed.{answered_by}
use Rattle.pick_xml.specs.Program.Laws.{refused_lined, admitted_lined}
use Rattle.pick_xml.proofs.answer.Goals as goal

pub admit-requires : goal.admit-requires
admit-requires c = record { room = (omega (arith, elements_is), omega (arith, nodes_is)); text_long = omega arith }

pub answer_names-requires : goal.answer_names-requires
answer_names-requires c =
    record {
      elements_needed_in_bounds = (omega (arith, elements_is), omega (arith, nodes_is));
      in_bounds = (search rules, record { query = c.args.query.now; begun = c.in-Ok.ensures.ok.begun });
    }

pub returns-in-Ok : goal.returns-in-Ok
returns-in-Ok c =
    let query = c.in-Ok.ensures.ok in
    let names = c.answer_names.ensures in
    record {
      replied = answered_by (λ l. admitted_lined query.checked (l c.args.query.now query.begun)) names.names_answered;
      prefix_len = names.prefix_len;
    }

pub returns-in-Err : goal.returns-in-Err
returns-in-Err c = record { replied = inl (refused_lined c.in-Err.ensures.err); prefix_len = c.in-Err.ensures.err.prefix_len }
