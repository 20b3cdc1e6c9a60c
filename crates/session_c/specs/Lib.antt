pub mod Laid
pub mod Exported
