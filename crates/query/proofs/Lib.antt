pub mod Row
pub mod Loop
pub mod Answer
pub mod Decode
pub mod Examples
pub mod Reasons
pub mod Rules
