pub mod Lists
pub mod Used
pub mod Opens
pub mod Closes
pub mod Right
pub mod Small
pub mod Rooms
