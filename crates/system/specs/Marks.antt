-- What a call of the system leaves behind for a contract to speak of.
--
--   FileOpened path file     the file was opened by this path
--   FileClosed file          it was closed
--   ReadGave file bytes      a call of a function of this crate gave the bytes, which came from reads of the file, end to end
--   ReadOver file            a read of the file that had room gave nothing: the file was at its end, or the read failed
--   WriteTold bytes taken    the bytes were handed to standard output, and `taken` answers whether all were taken
--   ErrorTold bytes taken    the same of standard error
--   Received file bytes      the bytes are pieces, end to end, each of which a call gave
--   Delivered bytes          the bytes are pieces, end to end, each of which was handed to standard output by a call, and taken
--   Failed                   bytes were handed to standard output by a call, and not all were taken
--   ReadAt file at l l' r    one read of the file into l from at on, which gave r bytes and left l'
--   ReadFull file l r        reads of the file into l from its start on, which gave r bytes
--   FileGiven path l r       a file of this path was opened, read so, and closed
--
-- The first six are marks: what they stand for is not said to any other module, and only Marks.Seal makes them. That module is for the proofs of this
-- crate's functions alone (tests/marks/run holds every other file to it), so a function that claims a mark has called a function that gives it. That the
-- functions of this crate make the call that their mark stands for is read in src/lib.rt, not proved. A mark says that a call was made: not how often, in
-- which order, or what other calls were made. Assumes nothing. NOT here: what a file has in it, which nothing can say.
pub mod Seal
use Rattle.std.specs.Prelude.{ℕ, ◌+◌, ◌≤◌, ◌<◌, ◌≡◌, Bool, true, false, List, [], ◌++◌, length, take, drop}
use Rattle.io.specs.Counts.{IsPrefixLen}
use Rattle.system.specs.declared.File.{File}

pub FileOpened : List ℕ → File → Type 0
FileOpened path file = file ≡ file

pub FileClosed : File → Type 0
FileClosed file = file ≡ file

pub ReadGave : File → List ℕ → Type 0
ReadGave file bytes = bytes ≡ bytes

pub ReadOver : File → Type 0
ReadOver file = file ≡ file

pub WriteTold : List ℕ → Bool → Type 0
WriteTold bytes taken = bytes ≡ bytes

pub ErrorTold : List ℕ → Bool → Type 0
ErrorTold bytes taken = bytes ≡ bytes

pub data Received (file : File) : List ℕ → Type 0 where
  nothing_yet : Received file []
  received : {before : List ℕ} → Received file before → (bytes : List ℕ) → ReadGave file bytes → Received file (before ++ bytes)

pub data Delivered : List ℕ → Type 0 where
  none_yet : Delivered []
  delivered : {before : List ℕ} → Delivered before → (bytes : List ℕ) → WriteTold bytes true → Delivered (before ++ bytes)

pub record Failed : Type 0 where
  pub bytes : List ℕ
  pub handed : WriteTold bytes false

pub record ReadAt (file : File) (at : ℕ) (l l' : List ℕ) (r : ℕ) : Type 0 where
  pub given : ReadGave file (take r (drop at l'))
  pub over : r ≡ 0 → at < length l → ReadOver file
  pub within : at + r ≤ length l'
  pub long : length l' ≡ length l
  pub kept : take at l' ≡ take at l

pub record ReadFull (file : File) (l : List ℕ) (r : ℕ) : Type 0 where
  pub given : ReadGave file (take r l)
  pub over : r < length l → ReadOver file
  pub counts : IsPrefixLen r l

pub record FileGiven (path l : List ℕ) (r : ℕ) : Type 0 where
  pub file : File
  pub opened : FileOpened path file
  pub full : ReadFull file l r
  pub closed : FileClosed file
