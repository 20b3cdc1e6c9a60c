-- What is shown of specs/Limited.
pub mod Laws
