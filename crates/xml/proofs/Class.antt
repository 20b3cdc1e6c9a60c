-- What is shown of specs/Class.
pub mod Laws
