-- `block::work_block` meets its contract. Assumes nothing.
use Rattle.std.proofs.Common.{◌≤◌, arith}
use Rattle.meaning.proofs.Limits.Laws.{node_limit_is}
use Rattle.block.proofs.Block.{part_short, worked_so}
use Rattle.block.proofs.work_block.Goals as goal

pub overflow_add-result-2 : goal.overflow_add-result-2
overflow_add-result-2 c =
    let a = c.args in
    let short = part_short a.input.now a.state.from a.state.end in
    let few : c.run-ran.result.taken ≤ 65536 =
    omega (arith, short, c.run-ran.ensures.taken_in_bounds.0, c.requires.unread_within.0.inside, c.requires.input_len_bound.0)
    in omega (arith, few, node_limit_is, c.requires.input_len_bound.1)

pub returns : goal.returns
returns c =
    let a = c.args in
    let run = c.run-ran in
    let lines = c.put_lines-length.ensures in
    worked_so a.state a.input.now a.elements.now a.nodes.now a.out.now run.result _ _ _ _ _ c.put_lines-length.result _
    c.requires.unread_within.0 run.ensures.run_gives run.ensures.taken_in_bounds.0 lines.put lines.prefix_len.0 c.write_text-written.ensures
    _ (omega (arith, c.number_of.ensures))
