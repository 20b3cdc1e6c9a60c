-- What all turns come to.
--
--   offered_text b f text     what offering the events of a text comes to, with numbers for names by f
--   Picked b N X file st E M       the text was worked on, for the query bytes b
--   WorkedText N X file session st E M       so for the query that the session was begun with; or standard output took no more
--
-- N and X are the list of names and its index, E and M the room. Assumes nothing.
use Rattle.std.specs.Prelude.{ℕ, ◌+◌, ◌*◌, ◌≤◌, ◌⊎◌, ◌≡◌, Bool, true, false, List, ◌++◌, length}
use Rattle.meaning.specs.Limits.{node_limit}
use Rattle.meaning.specs.Stream.{document}
use Rattle.meaning.specs.Standing.{listed}
use Rattle.meaning.specs.Offering.{Offering, offering_all}
use Rattle.query.specs.Decode.{decode}
use Rattle.session.specs.declared.Session.{Session}
use Rattle.session.specs.Run.{housed}
use Rattle.promise.specs.Promise.{Of}
use Rattle.names.specs.Number.{number_of}
use Rattle.reader_right.specs.Records.{records_in}
use Rattle.lines.specs.Text.{lines_of}
use Rattle.system.specs.declared.File.{File}
use Rattle.system.specs.Marks.{ReadOver, Received, Delivered, Failed}
use Rattle.turns.specs.Turns.{refusal_of, BegunFor}
use Rattle.intake.specs.Owed.{TextNumber, text_events, text_verdict}
use Rattle.intake.specs.Intake.{longest, verdict_for}
use Rattle.text_turns.specs.declared.Stand.{Stand}

abbrev pub offered_text : List ℕ → (List ℕ → ℕ) → List ℕ → Offering
offered_text b f text = offering_all (decode b) (records_in f (text_events text))

-- so much was read: as many bytes as are asked for, or so far that whatever follows changes nothing: neither the events taken and the refusal of one, nor,
-- where there is none, what becomes of the text
pub record SamePicked (b : List ℕ) (f : List ℕ → ℕ) (text longer : List ℕ) (refusal : ℕ) : Type 0 where
  pub same_offered : offered_text b f longer ≡ offered_text b f text
  pub same_verdict : refusal ≡ 0 → text_verdict longer ≡ text_verdict text

pub record Picked (b N X : List ℕ) (file : File) (st : Stand) (E M : List ℕ) : Type 0 where
  pub text : List ℕ
  pub received : Received file text
  pub stop : Bool
  pub reached : Of b (record { events = (offered_text b (number_of N X) text).events; stopped = stop }) (housed st.state.session E M)
  pub going_on : st.state.refusal ≡ 0 → stop ≡ false
  pub counted : st.state.taken ≡ length (offered_text b (number_of N X) text).events
  pub refusal_so : refusal_of st.state.refusal ≡ (offered_text b (number_of N X) text).refusal
  pub verdict_so : st.state.refusal ≡ 0 → verdict_for st.intake ≡ text_verdict text
  pub to_end :
      ReadOver file ⊎ ((longest ≤ length text) ⊎ ((more : List ℕ) → SamePicked b (number_of N X) text (text ++ more) st.state.refusal))
  pub delivered : Delivered (lines_of (listed (decode b) (document (offered_text b (number_of N X) text).events)))

pub record WorkedText (N X : List ℕ) (file : File) (session : Session) (st : Stand) (E M : List ℕ) : Type 0 where
  pub few : st.state.taken ≤ 2 * node_limit
  pub short : st.intake.taken ≤ longest + 65536
  pub named : TextNumber st.intake.refusal
  pub picked : st.state.written ≡ true → (b : List ℕ) → BegunFor b session → Picked b N X file st E M
  pub failed : st.state.written ≡ false → Failed
