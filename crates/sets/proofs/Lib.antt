-- The proofs of crate sets.
pub mod Collect
pub mod Set
