-- `put_refused_for` puts "refused R at E", the word behind it and the reason's line. Assumes nothing.
use Rattle.lines.specs.Text.{refused_for_line}
use Rattle.lines.proofs.Put.Laws.{put_then}
use Rattle.lines.proofs.put_refused_for.Goals as goal

pub returns-clause-put : goal.returns-clause-put
unfolding refused_for_line
returns-clause-put c = put_then c.put_refusal-end.ensures.put (rw c.from.ensures at c.put_last.ensures.put)
