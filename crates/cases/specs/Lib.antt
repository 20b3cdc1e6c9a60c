pub mod Case
pub mod Cases
