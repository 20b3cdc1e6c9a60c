pub mod Stand
pub mod SoFar
pub mod Picked
pub mod Over
