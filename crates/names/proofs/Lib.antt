pub mod Answers
pub mod Built
pub mod Found
pub mod First
