-- What is shown of specs/Refusals.
pub mod Laws
