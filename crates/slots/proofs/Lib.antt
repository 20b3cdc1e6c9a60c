-- The proofs of crate slots.
pub mod Copied
