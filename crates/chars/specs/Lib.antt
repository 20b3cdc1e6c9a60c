pub mod Marks
pub mod Forms
pub mod Same
pub mod Entities
pub mod Said
pub mod Table
