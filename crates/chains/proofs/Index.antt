-- What is shown of specs/Index.
pub mod Laws
pub mod Parts
pub mod Room
