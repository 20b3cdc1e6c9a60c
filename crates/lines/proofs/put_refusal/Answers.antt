-- `put_refusal` puts two words, each with its number; a number under 256 has at most 3 digits, and one of 8 bytes at most 20. Assumes nothing.
use Rattle.std.proofs.Common.{arith}
use Rattle.lines.proofs.Decimal.Laws.{length_short}
use Rattle.lines.proofs.Text.Laws.{put_refusal}
use Rattle.lines.proofs.put_refusal.Goals as goal

pub put_named-at-requires : goal.put_named-at-requires
put_named-at-requires c = omega (arith, length_short 2 c.from.result (omega arith))

pub put_named-requires : goal.put_named-requires
put_named-requires c =
    omega (arith, c.put_named-at.ensures.end, length_short 2 c.from.result (omega arith), length_short 19 c.args.e (omega arith))

pub returns : goal.returns
returns c =
    record {
      put = put_refusal c.args.r c.args.e (rw c.from.ensures at c.put_named-at.ensures) c.put_named.ensures;
      short =
          omega (
            arith,
            c.put_named-at.ensures.end,
            c.put_named.ensures.end,
            length_short 2 c.from.result (omega arith),
            length_short 19 c.args.e (omega arith),
          );
    }
