-- What is shown of specs/Completion.
pub mod Laws
