-- The records of some bytes, offered one after the other to a session, in the words of the meaning.
--
--   Progress b es bs l taken refusal nodes     after the query bytes b and the accepted events es, records of bs were offered, up to the first refusal or
--                                             fewer:
--                                             `taken` of them were accepted, have listed `nodes` and led to the session and room l; the next one was refused
--                                             with the number `refusal`, or none was and it is 0
--
-- Assumes nothing. NOT here: what offering records comes to (crate meaning, Offering), what a block of events is (crate session, Run).
pub mod Laws
pub mod Block
use Rattle.std.specs.Prelude.{ℕ, ◌*◌, ◌≤◌, ◌<◌, ◌≡◌, Bool, false, List, ◌++◌, length, drop}
use Rattle.std.proofs.Math.Option.{none, some}
use Rattle.meaning.specs.Stream.{Event, document}
use Rattle.meaning.specs.Standing.{listed}
use Rattle.meaning.specs.Offering.{offering}
use Rattle.query.specs.Decode.{decode}
use Rattle.session.specs.Run.{Housed}
use Rattle.promise.specs.Promise.{Of}

pub record Progress (b : List ℕ) (es : List Event) (bs : List ℕ) (l : Housed) (taken refusal : ℕ) (nodes : List ℕ) : Type 0 where
  -- the events accepted by then, and whether the session is stopped
  pub events : List Event
  pub stop : Bool
  pub reached : Of b (record { events = events; stopped = stop }) l
  pub going_on : refusal ≡ 0 → stop ≡ false
  pub within : 8 * taken ≤ length bs
  pub accepted : offering (decode b) taken es bs ≡ record { events = events; refusal = none }
  pub left : (refusal ≡ 0 → ⊥) → 8 * taken < length bs
  pub refused : (refusal ≡ 0 → ⊥) → offering (decode b) 1 events (drop (8 * taken) bs) ≡ record { events = events; refusal = some refusal }
  pub listing : listed (decode b) (document es) ++ nodes ≡ listed (decode b) (document events)
