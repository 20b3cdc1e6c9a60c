pub mod Marks
pub mod ReadPart
