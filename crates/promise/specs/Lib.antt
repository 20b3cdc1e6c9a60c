pub mod Lending
pub mod Promise
pub mod Theorem
