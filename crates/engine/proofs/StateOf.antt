-- What is shown of specs/StateOf.
pub mod Frames
pub mod Places
pub mod Standings
pub mod Theorem
