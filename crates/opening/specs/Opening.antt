-- An open before anything is handed out: the engine's own opening (crate engine, Quick) on the records in use, the others as they were.
--
--   used_in depth held E N          the engine's state of the records in use
--   going_of o                      which nodes go at the opening o
--   Opened, opening_in P x depth held E N       an opening of x: which nodes go, and the open elements;  opened_by: by what the opening comes to
--   all_go, no_place                 all that wait go, and the new node with them; the new node has no place
--   over_in P x depth held E N      an opening of x leaves more nodes waiting than there are records
--
-- Assumes nothing. NOT here: that the records in use are the engine's state (crate right).
pub mod Laws
use Rattle.std.specs.Prelude.{ℕ, ◌+◌, ◌-◌, Bool, false, ◌++◌, eqb, leb, take, drop}
use Rattle.choice.specs.When.{when}
use Rattle.meaning.specs.Limits.{held_limit}
use Rattle.plan.specs.Plan.{Plan}
use Rattle.engine.specs.Quick.{State, Opening, opening, over}
use Rattle.element.specs.Element.{Elements}
use Rattle.elements.specs.Elements as elements
use Rattle.node.specs.Node.{Queue}
use Rattle.nodes.specs.declared.Going.{Going}

unfoldable pub used_in : ℕ → ℕ → Elements → Queue → State
used_in depth held E N = record { frames = take depth E.list; queue = take held N.list; opened = 0; handed = 0; ended = false }

unfoldable pub going_of : Opening → Going
going_of o = record { went = o.went; all = o.all; joins = o.joins }

pub record Opened : Type 0 where
  pub going : Going
  pub elements : Elements

-- by what the opening comes to
abbrev pub opened_by : ℕ → Elements → Opening → Opened
opened_by depth E o = record { going = going_of o; elements = elements.with (o.frames ++ drop (depth + 1) E.list) E }

unfoldable pub opening_in : Plan → ℕ → ℕ → ℕ → Elements → Queue → Opened
opening_in P x depth held E N = opened_by depth E (opening P x (used_in depth held E N))

unfoldable pub all_go : ℕ → ℕ → Bool → Bool
all_go went held certain = when certain (eqb went held) false

unfoldable pub no_place : Bool → Bool → ℕ → ℕ → Bool
no_place all joins went held = when all false (when joins (leb held_limit (held - went)) false)

-- "7: an open after which more than 1,024 nodes would be held"
unfoldable pub over_in : Plan → ℕ → ℕ → ℕ → Elements → Queue → Bool
over_in P x depth held E N = over held_limit (used_in depth held E N) (opening P x (used_in depth held E N))
