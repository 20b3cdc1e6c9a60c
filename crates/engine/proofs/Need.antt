-- What is shown of specs/Need.
pub mod Laws
