-- The plan of a query.
--
--   Any        sets of steps, and searches for a step
--   Every      a fact at every member of a list
--   Order      the order in which a query's steps are given bits, and masks in it
--   Plan       the plan, and the engine's operations on masks
--   Asked      which steps ask for a name, told by buckets
--   Places     the places of the steps, and when a plan is right
--   Planned    what plan is made of a query's bytes
--
-- Assumes nothing.
pub mod Any
pub mod Every
pub mod Order
pub mod Plan
pub mod Asked
pub mod Places
pub mod Planned
