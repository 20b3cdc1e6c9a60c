-- The proofs of crate records.
pub mod Write
