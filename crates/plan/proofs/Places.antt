-- What is shown of specs/Places.
pub mod Laws
pub mod Order
pub mod Plan
