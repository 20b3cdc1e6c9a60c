pub mod Row
pub mod Turn
pub mod Answer
