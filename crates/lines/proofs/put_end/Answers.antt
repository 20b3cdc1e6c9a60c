-- `put_end` puts the word and the number's line behind it. Assumes nothing.
use Rattle.lines.specs.Text.{end_line}
use Rattle.lines.proofs.put_end.Goals as goal

pub returns-clause-put : goal.returns-clause-put
unfolding end_line
returns-clause-put c = c.put_last.ensures.put
