-- What is needed as numbers.
--
--   limits      of the buffer, of the room for the open elements and for the waiting nodes
--
-- Assumes nothing.
use Rattle.meaning.proofs.Limits.Laws.{output_is, elements_is, nodes_is}

pub ruleset limits = (output_is, elements_is, nodes_is)
