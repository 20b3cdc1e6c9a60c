-- What is shown of specs/Offering.
pub mod Laws
