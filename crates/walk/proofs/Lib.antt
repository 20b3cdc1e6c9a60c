-- The proofs of crate walk.
pub mod Within
