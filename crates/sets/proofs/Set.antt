-- What is shown of specs/Set.
pub mod Algebra
pub mod Laws
pub mod Of
pub mod Order
