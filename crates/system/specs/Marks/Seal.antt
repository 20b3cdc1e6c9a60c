-- The marks, made: for the proofs of this crate's functions and for no other.
--
--   opened, closed, gave, over, handed, complained      a call of the system has been made
--
-- Assumes nothing.
use Rattle.std.specs.Prelude.{ℕ, refl, Bool, List}
use Rattle.system.specs.declared.File.{File}
use Rattle.system.specs.Marks.{FileOpened, FileClosed, ReadGave, ReadOver, WriteTold, ErrorTold}

pub opened : (path : List ℕ) (file : File) → FileOpened path file
unfolding FileOpened
opened path file = refl

pub closed : (file : File) → FileClosed file
unfolding FileClosed
closed file = refl

pub gave : (file : File) (bytes : List ℕ) → ReadGave file bytes
unfolding ReadGave
gave file bytes = refl

pub over : (file : File) → ReadOver file
unfolding ReadOver
over file = refl

pub handed : (bytes : List ℕ) (taken : Bool) → WriteTold bytes taken
unfolding WriteTold
handed bytes taken = refl

pub complained : (bytes : List ℕ) (taken : Bool) → ErrorTold bytes taken
unfolding ErrorTold
complained bytes taken = refl
