-- `put_last` puts a word and a line behind it; a line has at most 21 bytes. Assumes nothing.
use Rattle.std.proofs.Common.{arith}
use Rattle.lines.proofs.Text.Laws.{line_short}
use Rattle.lines.proofs.Put.Laws.{put_then, put_counts}
use Rattle.lines.proofs.put_last.Goals as goal

pub put_line-requires : goal.put_line-requires
put_line-requires c = omega (arith, c.put_word-number.ensures.end, line_short 19 c.args.n (omega arith))

pub returns : goal.returns
returns c =
    let both = put_counts (put_then c.put_word-number.ensures c.put_line.ensures)
    (omega (arith, c.put_word-number.ensures.end, c.put_line.ensures.end, line_short 19 c.args.n (omega arith))) in
    record { put = both.0; prefix_len = both.1 }
