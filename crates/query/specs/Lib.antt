pub mod Rules
pub mod Reasons
pub mod Answer
pub mod Decode
