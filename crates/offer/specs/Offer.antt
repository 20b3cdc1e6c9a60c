-- What one event on room of any length comes to, for all values of what is lent.
--
--   needed s                 the seat s with the bytes of its rooms that are needed alone
--   longer A B s             the seat s with the bytes A and B past those of its rooms
--   beside s c               what a step on the needed bytes came to, with the bytes past them in s
--   offered P s bytes out    one event: refusals 1 and 15 by the lengths of what is lent, else a step (crate feed, Steps) on the room that is needed
--   OfferGives P s bytes out r s' out'      THE PROMISE of `offer`: its result r, the numbers and rooms s' and the buffer out' on return are those
--
-- Assumes nothing. NOT here: the stop (crate stop), what a step does (crate step), when room is too small (crate meaning, Answer).
pub mod Laws
pub mod Alike
use Rattle.std.specs.Prelude.{ℕ, ◌≡◌, Result, List, ◌++◌, ltb, length, take, drop}
use Rattle.choice.specs.When.{when}
use Rattle.meaning.specs.Answer.{too_small}
use Rattle.meaning.specs.Limits.{output_needed, elements_needed, nodes_needed}
use Rattle.meaning.specs.Refusals.{short_output, short_room}
use Rattle.plan.specs.Plan.{Plan}
use Rattle.limits.specs.declared.Refusal.{Refusal}
use Rattle.limits.specs.Number.{fault_in}
use Rattle.step.specs.Step.{listed_in}
use Rattle.feed.specs.Fed.{Came}
use Rattle.feed.specs.Fed.Across.{across}
use Rattle.feed.specs.Steps.{Seat, seat, came, step_at}

abbrev pub needed : Seat → Seat
needed s = seat s.numbers (take elements_needed s.elements) (take nodes_needed s.nodes)

abbrev pub longer : List ℕ → List ℕ → Seat → Seat
longer A B s = seat s.numbers (s.elements ++ A) (s.nodes ++ B)

-- the bytes past the needed ones are never touched
abbrev pub beside : Seat → Came Seat → Came Seat
beside s c = across (longer (drop elements_needed s.elements) (drop nodes_needed s.nodes)) c

-- "1: output buffer under 4,100 bytes", "15 comes directly after 1 and before all others"
unfoldable pub offered : Plan → Seat → List ℕ → List ℕ → Came Seat
offered P s bytes out =
    when (ltb (length out) output_needed) (came short_output 0 s out)
    (when (too_small (length s.elements) (length s.nodes)) (came short_room 0 s out)
    (beside s (step_at P (needed s) bytes out)))

abbrev pub OfferGives : Plan → Seat → List ℕ → List ℕ → Result ℕ Refusal → Seat → List ℕ → Type 0
OfferGives P s bytes out r s' out' = came (fault_in r) (listed_in r) s' out' ≡ offered P s bytes out
