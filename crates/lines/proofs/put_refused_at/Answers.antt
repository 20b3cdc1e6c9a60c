-- `put_refused_at` puts "refused R at E" and a line feed behind it. Assumes nothing.
use Rattle.lines.specs.Text.{refused_at_line}
use Rattle.lines.proofs.Put.Laws.{put_then}
use Rattle.lines.proofs.put_refused_at.Goals as goal

pub returns-clause-put : goal.returns-clause-put
unfolding refused_at_line
returns-clause-put c = put_then c.put_refusal-end.ensures.put c.put_word.ensures
