pub mod Marked
pub mod Stands
pub mod Sound
pub mod Long
