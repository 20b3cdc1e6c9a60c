-- What is shown of specs/Decode.
pub mod Laws
