pub mod Lines
pub mod Listed
pub mod Words
pub mod Examples
pub mod Answer
