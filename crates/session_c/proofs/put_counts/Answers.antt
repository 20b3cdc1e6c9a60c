-- Each count in its half of the bytes. Assumes nothing.
use native.Mathlib.Omega.{arith}
use Rattle.std.proofs.Common.{◌∙◌}
use mathlib.Core.Path.{ap}
use lib.ListN.{length}
use Rattle.session_c.proofs.Laid.Laws.{counts_room_lem, counts_put}
use Rattle.session_c.proofs.put_counts.Goals as goal

pub split_at_mut-one-requires : goal.split_at_mut-one-requires
split_at_mut-one-requires c = omega (arith, counts_room_lem)

pub copy_from_slice-requires-2 : goal.copy_from_slice-requires-2
copy_from_slice-requires-2 c = omega (arith, counts_room_lem, c.split_at_mut-one.ensures.back_len, ap length c.to_le_bytes-2.ensures)

pub returns : goal.returns
returns c = counts_put c.args.first c.args.second _ _ (c.copy_from_slice.ensures.after ∙ c.to_le_bytes.ensures)
    (c.copy_from_slice-2.ensures.after ∙ c.to_le_bytes-2.ensures)
