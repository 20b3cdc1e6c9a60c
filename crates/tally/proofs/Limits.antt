-- The limits as numbers.
--
--   limits      those of the depth, the nodes that wait and the nodes opened
--
-- Assumes nothing.
use Rattle.meaning.proofs.Limits.Laws.{depth_is, held_is, node_limit_is}

pub ruleset limits = (depth_is, held_is, node_limit_is)
