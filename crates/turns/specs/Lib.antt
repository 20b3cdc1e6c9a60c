pub mod Progress
pub mod Turns
pub mod Owed
