-- What holds between two turns of the program's loop, and what all turns come to.
--
--   refusal_of r                the refusal that a number stands for: 0 is none
--   BegunFor b session         begin has made the session for the query bytes b, to be used with any room;  Started session: for some query
--   more_to_do refusal ended written      another turn is taken
--   TurnTaken file s i E N out s' i' E' N'     a turn: a block of events or a read, by whether a whole record is there; a read leaves the room
--   EventsSoFar b bytes s input E N    what working on the records of some bytes has come to, for the query bytes b, in the words of the meaning
--   TurnsSoFar b file s input E N      what the turns have come to: the same for the bytes that reads of a file have given
--   Streamed b file s E N      what all turns come to, for the query bytes b;  WorkedAll file session s E N: for the query that the session was begun with
--
-- Assumes nothing. NOT here: what a read and a block of events make of the state (crate reads, State; crate block, Worked), what offering records comes to
-- (crate meaning, Offering), what is owed (crate pick, Program).
pub mod Laws
use Rattle.std.specs.Prelude.{ℕ, zero, suc, ◌-◌, ◌+◌, ◌*◌, ◌≤◌, ◌<◌, ◌⊎◌, ◌≡◌, Bool, true, false, List, [], ◌++◌, eqb, length, drop}
use Rattle.std.proofs.Math.Option.{Option, none, some}
use Rattle.choice.specs.When.{when}
use Rattle.meaning.specs.Limits.{node_limit}
use Rattle.meaning.specs.Stream.{document}
use Rattle.meaning.specs.Standing.{listed}
use Rattle.meaning.specs.Answer.{going}
use Rattle.meaning.specs.Offering.{offering_all}
use Rattle.query.specs.Decode.{decode}
use Rattle.session.specs.declared.Session.{Session}
use Rattle.session.specs.Run.{housed}
use Rattle.promise.specs.Promise.{Of}
use Rattle.lines.specs.Text.{lines_of}
use Rattle.system.specs.declared.File.{File}
use Rattle.system.specs.Marks.{ReadOver, Received, Delivered, Failed}
use Rattle.reads.specs.declared.State.{State}
use Rattle.reads.specs.State.{unread, ReadMore}
use Rattle.block.specs.Worked.{Worked}
use Rattle.turns.specs.Progress.{Progress}
use Rattle.turns.specs.Progress.Block.{Enough}

-- the number 0 stands for no refusal
unfoldable pub refusal_of : ℕ → Option ℕ
refusal_of zero = none
refusal_of (suc r) = some (suc r)

-- "Nothing is asked of the room's content at begin"
abbrev pub BegunFor : List ℕ → Session → Type 0
BegunFor b session = (E N : List ℕ) → Of b (going []) (housed session E N)

pub record Started (session : Session) : Type 0 where
  pub query : List ℕ
  pub begun : BegunFor query session

unfoldable pub more_to_do : ℕ → Bool → Bool → Bool
more_to_do refusal ended written = when (eqb refusal 0) (when ended false written) false

pub data TurnTaken (file : File) (s : State) (input E N out : List ℕ) (s' : State) (input' E' N' : List ℕ) : Type 0 where
  worked : 8 ≤ s.end - s.from → input' ≡ input → Worked s input E N out s' E' N' → TurnTaken file s input E N out s' input' E' N'
  read : s.end - s.from < 8 → E' ≡ E → N' ≡ N → ReadMore file s input s' input' → TurnTaken file s input E N out s' input' E' N'

pub record EventsSoFar (b bytes : List ℕ) (s : State) (input E N : List ℕ) : Type 0 where
  -- what is listed for it
  pub nodes : List ℕ
  pub offered : Progress b [] bytes (housed s.session E N) s.taken s.refusal nodes
  pub enough : Enough (housed s.session E N)
  pub rest : unread s input ≡ drop (8 * s.taken) bytes
  pub delivered : s.written ≡ true → Delivered (lines_of nodes)
  pub failed : s.written ≡ false → Failed

pub record TurnsSoFar (b : List ℕ) (file : File) (s : State) (input E N : List ℕ) : Type 0 where
  -- what the reads have given, end to end
  pub bytes : List ℕ
  pub received : Received file bytes
  pub events : EventsSoFar b bytes s input E N
  -- a read has given nothing; then nothing is left over or it was refused
  pub at_end : s.ended ≡ true → ReadOver file
  pub over : s.ended ≡ true → s.refusal ≡ 0 → length bytes ≤ 8 * s.taken
  -- else only a whole record is refused
  pub whole : s.ended ≡ false → (s.refusal ≡ 0 → ⊥) → 8 * s.taken + 8 ≤ length bytes

-- the whole stream, for the query bytes b
pub record Streamed (b : List ℕ) (file : File) (s : State) (E N : List ℕ) : Type 0 where
  pub bytes : List ℕ
  pub received : Received file bytes
  pub stop : Bool
  pub reached : Of b (record { events = (offering_all (decode b) bytes).events; stopped = stop }) (housed s.session E N)
  pub going_on : s.refusal ≡ 0 → stop ≡ false
  pub counted : s.taken ≡ length (offering_all (decode b) bytes).events
  pub refusal_so : refusal_of s.refusal ≡ (offering_all (decode b) bytes).refusal
  pub to_end : ReadOver file ⊎ ((more : List ℕ) → offering_all (decode b) (bytes ++ more) ≡ offering_all (decode b) bytes)
  pub delivered : Delivered (lines_of (listed (decode b) (document (offering_all (decode b) bytes).events)))

pub record WorkedAll (file : File) (session : Session) (s : State) (E N : List ℕ) : Type 0 where
  pub few : s.taken ≤ 2 * node_limit
  pub streamed : s.written ≡ true → (b : List ℕ) → BegunFor b session → Streamed b file s E N
  pub failed : s.written ≡ false → Failed
