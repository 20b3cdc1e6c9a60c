-- `reads::read_more` meets its contract. Assumes nothing.
use Rattle.std.proofs.Common.{◌-◌, ◌≡◌, ◌∙◌, arith, eqb, eq-eqb, ne_eqb}
use Rattle.choice.specs.When.{when, when_yes, when_no}
use Rattle.reads.specs.State.{leftover_of}
use Rattle.reads.proofs.Read.{read_so_moved}
use Rattle.reads.proofs.read_more.Goals.{then-ended, else-ended}
use Rattle.reads.proofs.read_more.Goals as goal

pub returns : goal.returns
returns c =
    let a = c.args in
    let read = c.read_at-more in
    let so : c.if-ended.result ≡ when (eqb read.result 0) (leftover_of (a.state.end - a.state.from)) 0 =
    elim c.if-ended.branch [
      | then-ended w ↦ when_yes _ _ _ _ (eq-eqb _ _ w.if-ended.true) (w.result-is ∙ w.leftover.ensures)
      | else-ended w ↦ when_no _ _ _ _ (ne_eqb _ _ w.if-ended.false) w.result-is
    ] in
    read_so_moved a.file.now a.state a.input.now _ _ read.result c.requires.0 c.move_down.ensures read.ensures c.requires.1 _ c.if-ended.result (omega arith) so
