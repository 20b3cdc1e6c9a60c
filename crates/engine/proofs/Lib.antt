-- The engine is equal to the meaning.
--
--   Every      a fact at every member of a list
--   Need       what a need comes to
--   Queue      settling a queue that was settled before
--   StateOf    the engine leads to the state that the meaning prescribes
--   Hom        what keeps the operations keeps the engine
--   MaskOps    the operations on masks agree with those on sets
--   Quick      the quick engine is right
--   Trial      the quick engine run on some cases
--
-- Assumes nothing.
pub mod Every
pub mod Need
pub mod Queue
pub mod StateOf
pub mod Hom
pub mod MaskOps
pub mod Quick
pub mod Trial
