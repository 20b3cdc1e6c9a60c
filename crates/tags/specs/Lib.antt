pub mod Markup
pub mod Tag
