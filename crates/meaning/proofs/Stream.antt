-- What is shown of specs/Stream.
pub mod Laws
