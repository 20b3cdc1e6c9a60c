-- How far the stream is worked on, and what a read makes of it.
--
--   unread s input             what is read and not taken yet
--   UnreadWithin s n           what is unread lies in the first n bytes of the input
--   leftover_of left            the refusal of so many leftover bytes, or 0
--   ReadMore file s i s' i'    a read: what it gave stands behind what was left over; where it gave nothing, the leftover bytes are a bad record
--
-- Assumes nothing. NOT here: what a block of events makes of it (crate block, Worked), what both come to together (crate turns, Turns).
use Rattle.std.specs.Prelude.{ℕ, ◌-◌, ◌≤◌, ◌≡◌, true, List, ◌++◌, eqb, length, take, drop}
use Rattle.choice.specs.When.{when}
use Rattle.meaning.specs.Refusals.{bad_record}
use Rattle.system.specs.declared.File.{File}
use Rattle.system.specs.Marks.{ReadGave, ReadOver}
use Rattle.reads.specs.declared.State.{State}

abbrev pub unread : State → List ℕ → List ℕ
unread s input = take (s.end - s.from) (drop s.from input)

pub record UnreadWithin (s : State) (n : ℕ) : Type 0 where
  pub forward : s.from ≤ s.end
  pub inside : s.end ≤ n

-- "Leftover bytes under 8 are a bad record."
unfoldable pub leftover_of : ℕ → ℕ
leftover_of left = when (eqb left 0) 0 bad_record

pub record ReadMore (file : File) (s : State) (input : List ℕ) (s' : State) (input' : List ℕ) : Type 0 where
  -- what the read gave
  pub bytes : List ℕ
  pub given : ReadGave file bytes
  pub behind : unread s' input' ≡ unread s input ++ bytes
  pub within : UnreadWithin s' (length input')
  pub session_same : s'.session ≡ s.session
  pub taken_same : s'.taken ≡ s.taken
  pub written_same : s'.written ≡ s.written
  pub ended_so : s'.ended ≡ eqb (length bytes) 0
  pub refused_so : s'.refusal ≡ when s'.ended (leftover_of (s.end - s.from)) 0
  pub over : s'.ended ≡ true → ReadOver file
