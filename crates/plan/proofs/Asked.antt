-- What is shown of specs/Asked.
pub mod Laws
