-- What is shown of specs/Bounds.
pub mod Laws
