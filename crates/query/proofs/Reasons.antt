-- What is shown of specs/Reasons.
pub mod Laws
