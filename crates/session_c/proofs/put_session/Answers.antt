-- What is kept of the query is copied, and the numbers follow. Assumes nothing.
use Rattle.std.proofs.Common.{rules}
use native.Mathlib.Omega.{arith}
use mathlib.Core.Path.{◌≡◌}
use lib.ListN.{length}
use Rattle.numbers.specs.Numbers.Laws as numbers
use Rattle.session_c.proofs.Laid.Laws.{room_is, last_bytes, put_parts}
use Rattle.session_c.proofs.put_session.Goals as goal

pub split_at_mut-kept-requires : goal.split_at_mut-kept-requires
split_at_mut-kept-requires c = omega (arith, room_is)

pub copy_from_slice-requires : goal.copy_from_slice-requires
copy_from_slice-requires c = let whole : length c.args.session.kept ≡ 288 = search rules in omega (arith, c.split_at_mut-kept.ensures.front_len)

pub unwrap-requires : goal.unwrap-requires
unwrap-requires c = c.as_mut_array.ensures.variant.1 (omega (arith, room_is, c.split_at_mut-kept.ensures.back_len))

pub returns : goal.returns
returns c = put_parts c.args.session _ c.lay.new.numbers c.copy_from_slice.ensures.after
    (omega (arith, room_is, numbers.room_is, c.split_at_mut-kept.ensures.back_len))
    (last_bytes c.copy_from_slice.new.self c.lay.new.numbers (λ i. (c.type_inv.room i).fits)) c.lay.ensures
