-- What is shown of specs/Explicit.
pub mod Demands
pub mod Numbers
pub mod Predicates
pub mod Ways
