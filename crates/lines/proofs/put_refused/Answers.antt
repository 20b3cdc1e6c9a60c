-- `put_refused` puts the word and the refusal's line behind it. Assumes nothing.
use Rattle.lines.specs.Text.{refused_line}
use Rattle.lines.proofs.put_refused.Goals as goal

pub returns-clause-put : goal.returns-clause-put
unfolding refused_line
returns-clause-put c = rw c.from.ensures at c.put_last.ensures.put
