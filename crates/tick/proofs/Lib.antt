-- The proofs of crate tick.
pub mod Told
