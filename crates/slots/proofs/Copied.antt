-- What is shown of specs/Copied.
pub mod Laws
