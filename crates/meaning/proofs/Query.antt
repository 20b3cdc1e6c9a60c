-- What is shown of specs/Query.
pub mod Laws
