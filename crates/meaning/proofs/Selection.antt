-- What is shown of specs/Selection.
pub mod Examples
pub mod Laws
