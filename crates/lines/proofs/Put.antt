-- What is shown of specs/Put.
pub mod Laws
