-- Over zeros. Assumes nothing.
use Rattle.std.proofs.Common.{rules}
use Rattle.plan_bytes.specs.Kept.{plan_room}
use Rattle.plan_bytes.specs.Kept.Laws.{pack_is}
use Rattle.plan_bytes.proofs.pack.Goals as goal

pub lay-requires : goal.lay-requires
unfolding plan_room
lay-requires c = search rules

pub returns : goal.returns
returns c = pack_is _ _ c.lay.ensures
