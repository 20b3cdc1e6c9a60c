pub mod Program
pub mod Events
