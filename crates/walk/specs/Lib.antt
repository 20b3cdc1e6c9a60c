pub mod Walk
pub mod Turn
pub mod Kinds
