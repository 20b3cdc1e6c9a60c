-- The proofs of crate tally.
--
--   Limits     the limits, as numbers
--   Counts     the numbers after an event
--   Tests      the tests of numbers
--
-- Assumes nothing.
pub mod Limits
pub mod Counts
pub mod Tests
