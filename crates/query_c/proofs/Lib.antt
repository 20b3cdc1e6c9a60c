-- The proofs of crate query_c.
pub mod Packed
