-- What is shown of specs/Laid.
pub mod Laws
pub mod Copied
