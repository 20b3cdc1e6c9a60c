-- What is shown of specs/Step.
pub mod Sizes
pub mod Laws
pub mod Left
