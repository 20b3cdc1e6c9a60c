-- A block of steps.
--
--   Seat, seat n E N         what a step is taken at: the numbers, and the bytes of both rooms
--   came                     what one event comes to, part by part
--   stopped_at r s            the seat s after the refusal r: all as it was but for the stop
--   came_to s out a           what a step that came to a leaves, as what one event comes to
--   step_at P s bytes out     one step with the stop (crate stop), as what one event comes to
--   Whole s                  the rooms are as long as they must be, and what is said by 0 or not 0 is said by 0 or 1
--   FeedGives P s es out r s' out'      THE PROMISE of `feed`: its result r, the numbers and rooms s' and the buffer out' on return
--                            are what single steps come to
--
-- Assumes nothing. NOT here: that a step leaves what code finds in the rooms (Steps.Laws).
pub mod Laws
use Rattle.std.specs.Prelude.{ℕ, ◌/◌, ◌≡◌, List, eqb, length}
use Rattle.choice.specs.When.{when}
use Rattle.meaning.specs.Record.{event_of}
use Rattle.meaning.specs.Limits.{elements_needed, nodes_needed}
use Rattle.records.specs.Read.{shown}
use Rattle.plan.specs.Plan.{Plan}
use Rattle.words.specs.Records.{laid}
use Rattle.element.specs.Element as element
use Rattle.element.specs.Element.{elements_in}
use Rattle.node.specs.Node as node
use Rattle.node.specs.Node.{queue_in}
use Rattle.numbers.specs.Numbers.{Numbers, Said}
use Rattle.step.specs.Step.{After}
use Rattle.stop.specs.Stop.{marked_by, guarded}
use Rattle.limits.specs.Number.{fault_of}
use Rattle.feed.specs.declared.Fed as struct
use Rattle.feed.specs.Fed.{Came, Fed, fed}

pub record Seat : Type 0 where
  pub numbers : Numbers
  pub elements : List ℕ
  pub nodes : List ℕ

abbrev pub seat : Numbers → List ℕ → List ℕ → Seat
seat n E N = record { numbers = n; elements = E; nodes = N }

abbrev pub came : ℕ → ℕ → Seat → List ℕ → Came Seat
came refusal listed s out = record { refusal = refusal; listed = listed; seat = s; out = out }

-- "The refused call changes nothing but this"
abbrev pub stopped_at : ℕ → Seat → Seat
stopped_at r s = seat (marked_by r s.numbers) s.elements s.nodes

-- "list, counts, output and lent room stay byte for byte as they were"
unfoldable pub came_to : Seat → List ℕ → After → Came Seat
came_to s out a =
    when (eqb a.refusal 0)
    (came 0 a.listed (seat a.numbers (laid element.shape a.elements) (laid node.shape a.nodes)) a.out)
    (came a.refusal 0 (stopped_at a.refusal s) out)

unfoldable pub step_at : Plan → Seat → List ℕ → List ℕ → Came Seat
step_at P s bytes out =
    came_to s out (guarded P (shown (event_of bytes)) s.numbers (elements_in s.elements) (queue_in s.nodes) out)

pub record Whole (s : Seat) : Type 0 where
  pub elements : length s.elements ≡ elements_needed
  pub nodes : length s.nodes ≡ nodes_needed
  pub said : Said s.numbers

abbrev pub FeedGives : Plan → Seat → List ℕ → List ℕ → struct.Fed → Seat → List ℕ → Type 0
FeedGives P s es out r s' out' =
    record { seat = s'; taken = r.taken; listed = r.listed; refusal = fault_of r.refusal; out = out' } ≡ fed (step_at P) (length es / 8) s es out
