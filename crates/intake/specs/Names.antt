-- The list of names, as it is read from its file.
--
--   names_name            the file's name
--   most_bytes            how many bytes a list has at most: 65,533 lines of 64 bytes, each with a line feed
--   FileRead name bytes Enough     a file of this name was opened and closed, and reads of it gave the bytes, up to its end, or Enough
--   NamesRead bytes      the list of names was read, up to its end or so far that no list that begins so is taken
--   NamesGiven l n       the file's bytes are the first n of l
--
-- Assumes nothing. NOT here: which lists are taken (crate listed), what is shown of them (proofs/Names).
use Rattle.std.specs.Prelude.{ℕ, ◌⊎◌, ◌≡◌, List, [], ◌∷◌, ◌++◌}
use Rattle.listed.specs.Listed.{list_answer}
use Rattle.system.specs.declared.File.{File}
use Rattle.system.specs.Marks.{FileOpened, FileClosed, ReadOver, Received, FileGiven}

-- "names.txt"
abbrev pub names_name : List ℕ
names_name = 110 ∷ 97 ∷ 109 ∷ 101 ∷ 115 ∷ 46 ∷ 116 ∷ 120 ∷ 116 ∷ []

abbrev pub most_bytes : ℕ
most_bytes = 4_259_645

pub record FileRead (name bytes : List ℕ) (Enough : Type 0) : Type 0 where
  pub file : File
  pub opened : FileOpened name file
  pub received : Received file bytes
  pub closed : FileClosed file
  pub to_end : ReadOver file ⊎ Enough

abbrev pub NamesRead : List ℕ → Type 0
NamesRead bytes = FileRead names_name bytes ((more : List ℕ) → (list_answer (bytes ++ more)).refusal ≡ 0 → ⊥)

abbrev pub NamesGiven : List ℕ → ℕ → Type 0
NamesGiven = FileGiven names_name
