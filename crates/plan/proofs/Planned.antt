-- What is shown of specs/Planned.
pub mod Examples
pub mod Laws
pub mod Steps
