-- The proofs of crate xml.
pub mod Bounds
pub mod Class
pub mod Limited
