-- An event's bytes, written in two parts, are one run.
--
--   event_halves        two parts of four bytes are the record
--
-- Assumes nothing.
use Rattle.std.specs.Prelude.{ℕ, suc, ◌+◌, ◌/◌, ◌%◌, ◌≡◌, List}
use Rattle.std.proofs.Common.{arith, ap}
use Rattle.std.proofs.lemmas.List.Edits.{sets}
use Rattle.records.specs.Event.{quad, event_bytes}

pub event_halves :
    (l : List ℕ) (at kind name : ℕ)
    → sets (sets l at (quad kind 0 (name / 256) (name % 256))) (at + 4) (quad 0 0 0 0) ≡ sets l at (event_bytes kind name)
event_halves l at kind name =
    let e : at + 4 ≡ suc (suc (suc (suc at))) = omega arith in
    ap (λ k. sets (sets l at (quad kind 0 (name / 256) (name % 256))) k (quad 0 0 0 0)) e
