-- What is shown of specs/Decimal.
pub mod Laws
