-- What is shown of specs/Rules.
pub mod Laws
pub mod Nearest
