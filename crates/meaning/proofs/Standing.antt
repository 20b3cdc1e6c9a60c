-- What is shown of specs/Standing.
pub mod Settling
pub mod Laws
