-- What is shown of specs/Text.
pub mod Laws
