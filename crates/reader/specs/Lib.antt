pub mod Fed
pub mod Feed
