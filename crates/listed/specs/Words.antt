-- The answer to a list in words: what a line and a list at fault are.
--
--   Name line              the line is a Name: its first byte may begin one, and with each other byte it may go on
--   Right n line           line number n is fine: it is not over the limit of lines, it is a Name, and it has few enough bytes
--   Over, NoName, Long     line number n gets refusal 47, 49 or 48
--   First F names n        line number n of the list is at fault as F says, and every line before it is fine
--   Fine names             the list has few enough lines, and each is a Name of few enough bytes
--
-- Assumes nothing. NOT here: that the answer is so (Words.Laws).
pub mod Verdict
pub mod Laws
use Rattle.std.specs.Prelude.{ℕ, suc, ◌≤◌, ◌<◌, ◌≡◌, List, length, get_or}
use Rattle.xml.specs.Class.{In}
use Rattle.xml.specs.Chars.{name_start, name_char}
use Rattle.xml.specs.Bounds.{name_limit, list_limit}
use Rattle.listed.specs.Lines.{lines_of, line_at}

pub record Name (line : List ℕ) : Type 0 where
  pub some : 0 < length line
  pub starts : In name_start (get_or line 0 0)
  pub goes_on : (i : ℕ) → 0 < i → i < length line → In name_char (get_or line i 0)

pub record Right (n : ℕ) (line : List ℕ) : Type 0 where
  pub few : n ≤ list_limit
  pub name : Name line
  pub short : length line ≤ name_limit

-- "the list has a 65,534th line"
pub record Over (n : ℕ) (line : List ℕ) : Type 0 where
  pub over : list_limit < n

-- "a line of the list is no name: it is empty, or has a byte that its place in a name does not allow"
pub record NoName (n : ℕ) (line : List ℕ) : Type 0 where
  pub few : n ≤ list_limit
  pub wrong : Name line → ⊥

-- "a line of the list is a name of more than 64 bytes"
pub record Long (n : ℕ) (line : List ℕ) : Type 0 where
  pub few : n ≤ list_limit
  pub name : Name line
  pub long : name_limit < length line

pub record First (Fault : ℕ → List ℕ → Type 0) (names : List ℕ) (n : ℕ) : Type 0 where
  pub before : ℕ
  pub number : n ≡ suc before
  pub there : before < length (lines_of names)
  pub fault : Fault n (line_at (lines_of names) before)
  pub earlier : (k : ℕ) → k < before → Right (suc k) (line_at (lines_of names) k)

pub record Fine (names : List ℕ) : Type 0 where
  pub few : length (lines_of names) ≤ list_limit
  pub each : (k : ℕ) → k < length (lines_of names) → Name (line_at (lines_of names) k)
  pub short : (k : ℕ) → k < length (lines_of names) → length (line_at (lines_of names) k) ≤ name_limit
