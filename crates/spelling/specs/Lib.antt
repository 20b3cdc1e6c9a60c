pub mod Bucket
pub mod Same
