-- The proofs of crate lines.
pub mod Decimal
pub mod Moved
pub mod Put
pub mod Text
