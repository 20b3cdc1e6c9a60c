-- The proofs of crate reader.
pub mod Told
