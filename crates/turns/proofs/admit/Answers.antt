-- `turns::admit` meets its contract. Assumes nothing.
use Rattle.std.proofs.Common.{◌∙◌, sym, ap}
use borrow.Author.Rules.{rules}
use Rattle.lines.proofs.Put.Laws.{put_taken}
use Rattle.promise.specs.Promise.{begin_of}
use Rattle.session.specs.Begin.{said}
use Rattle.turns.specs.Owed.{begin_checked}
use Rattle.turns.proofs.admit.Goals as goal

pub returns-in-Ok-clause-ok : goal.returns-in-Ok-clause-ok
unfolding said
returns-in-Ok-clause-ok c =
    let begin = c.begin-begun in
    record {
      checked = sym (begin_checked c.args.query.now _ _ begin.result c.requires.room.0 c.requires.room.1 begin.ensures) ∙ ap said c.in-Ok.is;
      begun = begin_of c.args.query.now _ _ begin.result (λ i. (c.type_inv.query i).fits) begin.ensures c.in-Ok.is;
    }

pub returns-in-Err-clause-err : goal.returns-in-Err-clause-err
returns-in-Err-clause-err c =
    let begin = c.begin-begun in
    let line = c.query_line.ensures in
    record {
      fault = c.in-Err.fault;
      checked = ap said (sym c.in-Err.is) ∙ begin_checked c.args.query.now _ _ begin.result c.requires.room.0 c.requires.room.1 begin.ensures;
      line = put_taken line.put (search rules);
      prefix_len = line.prefix_len;
    }
