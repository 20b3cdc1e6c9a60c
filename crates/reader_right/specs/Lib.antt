pub mod Records
pub mod Wrote
pub mod Counted
pub mod TextRead
pub mod Ended
pub mod Theorem
