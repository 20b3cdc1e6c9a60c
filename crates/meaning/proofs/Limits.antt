-- What is shown of specs/Limits.
pub mod Laws
