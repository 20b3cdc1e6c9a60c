-- What is shown of specs/Document.
pub mod Laws
