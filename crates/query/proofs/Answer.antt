-- What is shown of specs/Answer.
pub mod Laws
