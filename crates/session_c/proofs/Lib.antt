-- The proofs of crate session_c.
pub mod Copied
pub mod Laid
pub mod Exported
