-- What is shown of specs/Quick.
pub mod Close
pub mod Grow
pub mod Kept
pub mod Lists
pub mod Lookup
pub mod Of
pub mod Open
pub mod Reads
pub mod Snoc
pub mod Theorem
pub mod Waits
