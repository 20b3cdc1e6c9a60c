-- The proofs of crate offer.
pub mod Alike
