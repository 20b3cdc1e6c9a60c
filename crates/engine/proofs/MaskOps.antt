-- What is shown of specs/MaskOps.
pub mod Laws
