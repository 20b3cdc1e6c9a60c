pub mod Owed
pub mod Names
pub mod Intake
pub mod InText
pub mod Catalogue
pub mod Less
