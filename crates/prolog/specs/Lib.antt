pub mod Around
pub mod Told
pub mod Tick
