-- What is shown of specs/Write.
pub mod Laws
