-- A text that is read.
--
--   used R                    the part of the room that is used
--   TextRead N X t r R es     the text t is read whole, with the events es, and the reader r and the room R are as the last call left them
--
-- N and X are the list of names and its index, as they are lent to each call. Assumes nothing. What is shown of them is in proofs/TextRead.
use Rattle.std.specs.Prelude.{ℕ, ◌≡◌}
use mathlib.Core.List.{List}
use Rattle.std.proofs.Math.ListN.{take}
use Rattle.xml.specs.Grammar.{Ev}
use Rattle.xml.specs.Machine.{State, stands, run}
use Rattle.xml.specs.Limited.{bounds}
use Rattle.names.specs.Number.{number_of}
use Rattle.modes.specs.declared.Reader.{Reader}
use Rattle.modes.specs.Moves.{open_at}
use Rattle.slots.specs.Slots.{room_needed}
use Rattle.text_right.specs.Stands.{state_of}
use Rattle.text_right.specs.Sound.{Sound}
use Rattle.reader_right.specs.Counted.{Counted}

-- the part of the room that is used
abbrev pub used : List ℕ → List ℕ
used R = take room_needed R

pub record TextRead (N X t : List ℕ) (r : Reader) (R : List ℕ) (es : List Ev) : Type 0 where
  pub unrefused : r.refusal ≡ 0
  pub reads : run bounds t State.start ≡ stands es (state_of r (used R))
  pub sound : Sound r (used R)
  pub counted : Counted (number_of N X) (used R) (open_at r.place)
