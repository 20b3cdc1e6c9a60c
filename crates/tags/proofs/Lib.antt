-- The proofs of crate tags.
pub mod Found
