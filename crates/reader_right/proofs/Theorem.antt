-- What is shown of specs/Theorem.
pub mod Proof
