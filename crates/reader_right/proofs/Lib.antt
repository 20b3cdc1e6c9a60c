-- The proofs of crate reader_right.
pub mod Theorem
pub mod Ended
pub mod Emits
pub mod Reached
pub mod TextRead
pub mod Counted
