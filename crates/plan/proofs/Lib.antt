-- What is shown of the plan, and what the proofs of its functions share.
--
--   Bytes      the bytes of a step's record
--   Filling    the loop that fills slots
--   Buckets    the loop that files the steps into buckets
--   Laying     the loop that gives the steps their places
--   Made       what the parts of a plan come to
--   Asked      the buckets tell which steps ask for a name
--   Places     the places of the steps, and that a plan is right
--   Masks      what a plan's masks are
--   Planned    the plan of a query's bytes
--
-- Assumes nothing.
pub mod Bytes
pub mod Filling
pub mod Buckets
pub mod Laying
pub mod Made
pub mod Asked
pub mod Places
pub mod Masks
pub mod Planned
