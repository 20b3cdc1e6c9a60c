-- `put_word` replaces a part of the text by the word. Assumes nothing.
use Rattle.lines.proofs.Put.Laws.{put_part}
use Rattle.lines.proofs.put_word.Goals as goal

pub returns : goal.returns
returns c = rw c.copy_from_slice.ensures.after (put_part c.args.text.now c.args.word.now c.args.at c.requires)
