-- What is shown of specs/Table.
pub mod Laws
