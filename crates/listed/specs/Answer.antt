-- The answer to a list as the code gives it.
--
--   listing r      the answer that a result of the code stands for: 0 and 0 where there is no fault
--
-- Assumes nothing. NOT here: which answer a list gets (Listed), that it stands for no other result (proofs/Answer).
use Rattle.std.specs.Prelude.{Result, Ok, Err}
use Rattle.limits.specs.Number.{text_number}
use Rattle.listed.specs.declared.ListFault.{ListFault}
use Rattle.listed.specs.Listed.{Listing, fine, refused}

abbrev pub listing : {A : Type 0} → Result A ListFault → Listing
listing (Ok a) = fine
listing (Err f) = refused (text_number f.refusal) f.line
