-- The proofs of crate step.
pub mod Steps
