-- What is shown of specs/Exported.
pub mod Laws
pub mod Read
pub mod Offered
pub mod Copied
