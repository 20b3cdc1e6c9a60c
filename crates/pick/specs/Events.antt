-- What the events of an admitted query are answered with.
--
--   EventsLined b text r       for the query bytes b: every node's line is delivered, and the last line stands in the first r bytes of the text
--   EventsAnswered session text r       EventsLined for the session's query; or standard output took no more, and no line is put
--
-- Assumes nothing. NOT here: what is owed (Program), what the turns of the loop come to (crate turns, Turns).
use Rattle.std.specs.Prelude.{ℕ, ◌⊎◌, ◌≡◌, List, take}
use Rattle.meaning.specs.Stream.{document}
use Rattle.meaning.specs.Standing.{listed}
use Rattle.meaning.specs.Offering.{offering_all}
use Rattle.query.specs.Decode.{decode}
use Rattle.session.specs.declared.Session.{Session}
use Rattle.lines.specs.Text.{lines_of}
use Rattle.system.specs.Marks.{Delivered, Failed}
use Rattle.turns.specs.Turns.{BegunFor}
use Rattle.pick.specs.Program.{last_line_of, EventsRead}

pub record EventsLined (b text : List ℕ) (r : ℕ) : Type 0 where
  pub bytes : List ℕ
  pub events_read : EventsRead (decode b) bytes
  pub delivered : Delivered (lines_of (listed (decode b) (document (offering_all (decode b) bytes).events)))
  pub line : take r text ≡ last_line_of (decode b) (offering_all (decode b) bytes)

abbrev pub EventsAnswered : Session → List ℕ → ℕ → Type 0
EventsAnswered session text r = ((b : List ℕ) → BegunFor b session → EventsLined b text r) ⊎ (Failed × (r ≡ 0))
