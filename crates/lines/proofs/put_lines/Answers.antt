-- `put_lines` puts a line for each list record. The invariant: so many lines are put.
-- Assumes nothing.
use Rattle.std.proofs.Common.{arith, ◌≡◌}
use Rattle.lines.specs.Text.{lines_of, nodes_in}
use Rattle.lines.proofs.Text.Laws.{line_short, lines_short, put_next}
use Rattle.lines.proofs.Put.Laws.{put_none, put_counts}
use Rattle.lines.proofs.put_lines.Goals as goal

pub loop-i-init : goal.loop-i-init
unfolding lines_of nodes_in
loop-i-init c = put_none _ 0

pub put_line-end-requires : goal.put_line-end-requires
put_line-end-requires c =
    let l = c.loop-i in
    omega (
      arith,
      l.invariant.end,
      lines_short l.i c.args.records.now (λ i. (c.type_inv.records i).fits),
      line_short 9 c.node_at.result (omega (arith, c.node_at.ensures.1)),
    )

pub loop-i-preserved : goal.loop-i-preserved
loop-i-preserved c = put_next c.args.records.now c.loop-i.i c.node_at.result c.loop-i.invariant c.node_at.ensures.0 c.put_line-end.ensures

pub returns : goal.returns
returns c =
    let l = c.loop-i in
    let all : l.i ≡ c.args.count = omega arith in
    let both = put_counts (rw all at l.invariant)
    (omega (arith, l.invariant.end, lines_short l.i c.args.records.now (λ i. (c.type_inv.records i).fits))) in
    record { put = both.0; prefix_len = both.1 }
