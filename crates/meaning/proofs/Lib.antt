-- The proofs of crate meaning.
pub mod Document
pub mod Record
pub mod Answer
pub mod Completion
pub mod Continuation
pub mod Demands
pub mod Explicit
pub mod Limits
pub mod Offering
pub mod Query
pub mod Refusals
pub mod Selection
pub mod Standing
pub mod Stream
pub mod Table
pub mod Witness
