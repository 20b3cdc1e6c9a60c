-- What is shown of specs/Record.
pub mod Laws
