-- What makes each call fit.
--
--   sizes      the numbers of the limits, and that a test counts at most one
--
-- Assumes nothing.
use Rattle.choice.specs.Count.{bool_byte_le}
use Rattle.meaning.proofs.Limits.Laws.{depth_is, held_is, node_limit_is, output_is}

pub ruleset sizes = (depth_is, held_is, node_limit_is, output_is, bool_byte_le)
