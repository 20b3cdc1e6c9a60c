-- The proofs of crate lent.
pub mod Limits
