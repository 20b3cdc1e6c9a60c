-- `pick::answer_files` meets its contract: the whole program. Assumes nothing.
use Rattle.std.proofs.Common.{rules}
use Rattle.pick.specs.Program.Laws.{outcome_written}
use Rattle.pick.proofs.answer_files.Goals as goal

pub returns : goal.returns
returns c = outcome_written _ _ _ _ c.read_file-n.ensures.given (search rules) _ c.write_text.ensures c.answer-length.ensures.replied
