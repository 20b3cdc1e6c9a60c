-- How far a text is read, and what a feed and a read make of it.
--
--   longest                    so many bytes are asked for
--   begun                      before the first byte
--   unread_text i input         what has come and is not read yet
--   WithinText i n             what is unread lies in the first n bytes of the input
--   FedText N X i u R out i' R' out'      a feed of what is unread, with the list N and its index X
--   Asked file taken input input' r       a read that gave r bytes; or none, where so many bytes were read as are asked for
--   TextCame file i input i' input'       the same where all that has come is read
--   Advanced N X file i input R out i' input' R' out'     one of both, by whether something is unread
--   end_of r q                  the refusal of a text that was read with the reader r and the refusal q
--   verdict_for i               the verdict on it
--
-- Assumes nothing. NOT here: what they come to together (Intake.Laws).
pub mod Laws
use Rattle.std.specs.Prelude.{ℕ, ◌+◌, ◌-◌, ◌≤◌, ◌<◌, ◌⊎◌, ◌≡◌, false, List, ◌++◌, Option, None, eqb, length, take, drop}
use Rattle.choice.specs.When.{when}
use Rattle.limits.specs.Number.{text_of}
use Rattle.text_right.proofs.Quiet.{Bytes}
use Rattle.modes.specs.declared.Reader.{Reader}
use Rattle.reader.specs.Fed.{fresh_reader}
use Rattle.reader.specs.Feed.{feed_answer, finish_answer}
use Rattle.system.specs.declared.File.{File}
use Rattle.system.specs.Marks.{ReadOver, Received, ReadAt}
use Rattle.intake.specs.declared.Intake.{Intake}
use Rattle.intake.specs.Owed.{Judged, refused_at}

abbrev pub longest : ℕ
longest = 9_223_372_036_854_775_808

abbrev pub begun : Intake
begun = record { reader = fresh_reader; from = 0; end = 0; taken = 0; refusal = 0; ended = false; written = 0 }

abbrev pub unread_text : Intake → List ℕ → List ℕ
unread_text i input = take (i.end - i.from) (drop i.from input)

pub record WithinText (i : Intake) (n : ℕ) : Type 0 where
  pub forward : i.from ≤ i.end
  pub inside : i.end ≤ n

-- a feed of the text u, which is what is unread
pub record FedText (N X : List ℕ) (i : Intake) (u R out : List ℕ) (i' : Intake) (R' out' : List ℕ) : Type 0 where
  pub bytes : Bytes u
  pub reader_so : i'.reader ≡ (feed_answer N X u i.reader R out).reader
  pub from_so : i'.from ≡ i.from + (feed_answer N X u i.reader R out).taken
  pub end_same : i'.end ≡ i.end
  pub taken_so : i'.taken ≡ i.taken + (feed_answer N X u i.reader R out).taken
  pub refusal_so : i'.refusal ≡ text_of (feed_answer N X u i.reader R out).refusal
  pub written_so : i'.written ≡ (feed_answer N X u i.reader R out).written
  pub room_so : R' ≡ (feed_answer N X u i.reader R out).room
  pub out_so : out' ≡ (feed_answer N X u i.reader R out).out
  pub not_ended : i'.ended ≡ false

-- at most one read
pub data Asked (file : File) (taken : ℕ) (input input' : List ℕ) (r : ℕ) : Type 0 where
  enough : longest ≤ taken → input' ≡ input → r ≡ 0 → Asked file taken input input' r
  asked : taken < longest → ReadAt file 0 input input' r → Asked file taken input input' r

pub record TextCame (file : File) (i : Intake) (input : List ℕ) (i' : Intake) (input' : List ℕ) : Type 0 where
  -- what the read gave
  pub bytes : List ℕ
  pub received : (before : List ℕ) → Received file before → Received file (before ++ bytes)
  pub unread_so : unread_text i' input' ≡ bytes
  pub count : i'.end - i'.from ≡ length bytes
  pub within : WithinText i' (length input')
  pub reader_same : i'.reader ≡ i.reader
  pub taken_same : i'.taken ≡ i.taken
  pub unrefused : i'.refusal ≡ 0
  pub none_written : i'.written ≡ 0
  pub ended_so : i'.ended ≡ eqb (length bytes) 0
  pub over : length bytes ≡ 0 → 0 < length input → ReadOver file ⊎ (longest ≤ i.taken)
  pub some : 0 < length bytes → i.taken < longest

pub data Advanced (N X : List ℕ) (file : File) (i : Intake) (input R out : List ℕ) (i' : Intake) (input' R' out' : List ℕ) : Type 0 where
  fed :
      i.from < i.end → input' ≡ input → FedText N X i (unread_text i input) R out i' R' out' → Advanced N X file i input R out i' input' R' out'
  came : i.end ≤ i.from → R' ≡ R → out' ≡ out → TextCame file i input i' input' → Advanced N X file i input R out i' input' R' out'

unfoldable pub end_of : Reader → ℕ → ℕ
end_of r q = when (eqb q 0) (text_of (finish_answer r).refusal) q

unfoldable pub verdict_for : Intake → Option Judged
verdict_for i =
    when (eqb (end_of i.reader i.refusal) 0) None (refused_at (end_of i.reader i.refusal) (i.taken + 1))
