pub mod Moved
pub mod Read
