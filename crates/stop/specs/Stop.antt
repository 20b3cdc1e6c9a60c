-- The stop, on the session's numbers and on one event, for all values of what is lent.
--
--   marked_by r n              the numbers n after the refusal r, or after none (0): stopped, if r stops
--   marked a                  what an event came to, with the stop that its refusal is
--   guarded P e n E N out     the event e: 11 where the session is stopped, else a step (crate step), and the stop that its refusal is
--
-- Assumes nothing. NOT here: which refusals stop (crate meaning, Refusals), the stop over all calls (crate meaning, Answer.Stop).
pub mod Laws
use Rattle.std.specs.Prelude.{ℕ, Option, List, eqb}
use Rattle.choice.specs.When.{when}
use Rattle.meaning.specs.Refusals.{already_stopped, stops}
use Rattle.records.specs.declared.Event.{Event}
use Rattle.plan.specs.Plan.{Plan}
use Rattle.element.specs.Element.{Elements}
use Rattle.node.specs.Node.{Queue}
use Rattle.numbers.specs.Numbers.{Numbers, with_stop}
use Rattle.step.specs.Step.{After, after, refused_with, step}

unfoldable pub marked_by : ℕ → Numbers → Numbers
marked_by r n = when (stops r) (with_stop 1 n) n

-- "The refused call changes nothing but this"
abbrev pub marked : After → After
marked a = after a.refusal a.listed (marked_by a.refusal a.numbers) a.elements a.nodes a.out

-- "A call refused with 11 changes nothing at all"
unfoldable pub guarded : Plan → Option Event → Numbers → Elements → Queue → List ℕ → After
guarded P e n E N out = when (eqb n.stopped 0) (marked (step P e n E N out)) (refused_with already_stopped n E N out)
