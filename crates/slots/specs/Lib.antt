pub mod Slots
pub mod Copied
