-- What is shown of specs/Answer.
pub mod Bounds
pub mod Exactly
pub mod Laws
pub mod Stop
