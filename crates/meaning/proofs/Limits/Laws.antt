-- Each limit's number.
--
--   depth_is, held_is, node_limit_is            256, 1,024 and 16,777,215
--   output_is, elements_is, nodes_is            4,100, 16,384 and 32,768 bytes
--   element_record_is, waiting_record_is        64 and 32 bytes;  records_small: at most 4,096
--
-- Assumes nothing.
use Rattle.std.specs.Prelude.{◌≤◌, ◌≡◌, refl}
use Rattle.std.proofs.Common.{arith}
use Rattle.meaning.specs.Limits.{depth_limit, held_limit, node_limit, output_needed, element_record, waiting_record, elements_needed, nodes_needed}

pub depth_is : depth_limit ≡ 256
unfolding depth_limit
depth_is = refl

pub held_is : held_limit ≡ 1_024
unfolding held_limit
held_is = refl

pub node_limit_is : node_limit ≡ 16_777_215
unfolding node_limit
node_limit_is = refl

pub output_is : output_needed ≡ 4_100
unfolding output_needed held_limit
output_is = refl

pub element_record_is : element_record ≡ 64
unfolding element_record
element_record_is = refl

pub waiting_record_is : waiting_record ≡ 32
unfolding waiting_record
waiting_record_is = refl

pub elements_is : elements_needed ≡ 16_384
unfolding elements_needed element_record depth_limit
elements_is = refl

pub nodes_is : nodes_needed ≡ 32_768
unfolding nodes_needed waiting_record held_limit
nodes_is = refl

-- "at most 4,096 bytes for each query"
pub records_small : (element_record ≤ 4_096) × (waiting_record ≤ 4_096)
records_small = (omega (arith, element_record_is), omega (arith, waiting_record_is))
