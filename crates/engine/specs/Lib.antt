-- The engine as pure functions.
--
--   Need       what a waiting node wants of the level where it waits
--   Engine     the engine, over any kind of sets of steps
--   StateOf    the state that the meaning prescribes, to which the engine leads
--   Hom        the engine with sets in another coat
--   MaskOps    the engine on masks
--   Quick      the quick engine, which is what the code computes
--
-- Assumes nothing. That it is equal to the meaning is shown in proofs/.
pub mod Need
pub mod Engine
pub mod StateOf
pub mod Hom
pub mod MaskOps
pub mod Quick
