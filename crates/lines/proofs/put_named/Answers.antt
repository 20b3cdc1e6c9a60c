-- `put_named` puts a word and the numeral behind it. Assumes nothing.
use Rattle.lines.proofs.Put.Laws.{put_then}
use Rattle.lines.proofs.put_named.Goals as goal

pub returns : goal.returns
returns c = put_then c.put_word-number.ensures c.put_number.ensures
