-- A run of bytes cut into records, which are offered one after the other up to the first refusal.
--
--   Offering              the events accepted by then, and the number of the refusal, if there was one
--   offer bs              the call that offers the first record of bs, or what there is of it, and lends enough
--   unless_refused o es w  a refusal o ends it with the events es; else w
--   offering q n es bs    the first n records of bs, offered after the accepted events es: before the first refusal no session is stopped
--   pieces bs             how many records bs makes, a shorter last one among them
--   offering_all q bs      all of bs, from the start of a stream: "Leftover bytes under 8 are a bad record"
--
-- Assumes nothing. NOT here: the answer to one call (Answer), what is written for all this (crate pick, Program).
use Rattle.std.specs.Prelude.{ℕ, zero, suc, ◌+◌, ◌/◌, List, [], length, take, drop}
use Rattle.std.proofs.Math.Option.{Option, none, some}
use Rattle.meaning.specs.Query.{Query}
use Rattle.meaning.specs.Stream.{Event}
use Rattle.meaning.specs.Answer.{enough, Call, event, going, refusals, first, after}

pub record Offering : Type 0 where
  pub events : List Event
  pub refusal : Option ℕ

abbrev pub offer : List ℕ → Call
offer bs = event (take 8 bs) enough

unfoldable pub unless_refused : Option ℕ → List Event → Offering → Offering
unless_refused (some r) es w = record { events = es; refusal = some r }
unless_refused none es w = w

unfoldable pub offering : Query → ℕ → List Event → List ℕ → Offering
offering q zero es bs = record { events = es; refusal = none }
offering q (suc n) es bs =
    unless_refused (first (refusals q (going es) (offer bs))) es (offering q n (after q (going es) (offer bs)).events (drop 8 bs))

abbrev pub pieces : List ℕ → ℕ
pieces bs = (length bs + 7) / 8

abbrev pub offering_all : Query → List ℕ → Offering
offering_all q bs = offering q (pieces bs) [] bs
