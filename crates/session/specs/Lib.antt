pub mod Told
pub mod Begin
pub mod Event
pub mod Run
