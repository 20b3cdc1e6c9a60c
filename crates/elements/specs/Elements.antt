-- What the functions on the open elements do to all records: the engine's own functions (crate engine, Quick) on the records in use, the others as they were.
--
--   with fs E                 the records E with the frames fs
--   ready_at g P fs l          whose turn it is in the content of the element at level l, in the reading of field g; level 0 is the document
--   Risen                     how many of the open elements stayed as they were, and the records
--   risen_in P a depth E       a rises through the first `depth` records
--   refreshed_from P s from to E     the records from `from` to `to` with `sure` computed again, under s
--   pushed_in P x depth E      a new element named x under the first `depth`
--
-- Assumes nothing.
pub mod Laws
use Rattle.std.specs.Prelude.{ℕ, ◌+◌, ◌-◌, List, ◌∷◌, ◌++◌, map, length, get_or, take, drop}
use Rattle.sets.specs.Set.{meet, without}
use Rattle.plan.specs.Plan.{Plan, named}
use Rattle.engine.specs.Quick.{Frame, Rise, rise, refresh, frames_after}
use Rattle.element.specs.Element.{Elements, field_of}

abbrev pub with : List Frame → Elements → Elements
with fs E = record { list = fs; spare = E.spare }

unfoldable pub ready_at : ℕ → Plan → List Frame → ℕ → ℕ
ready_at g P fs l = get_or (P.first ∷ map (field_of g) fs) l 0

pub record Risen : Type 0 where
  pub top : ℕ
  pub elements : Elements

-- by what has risen through the first `depth`
abbrev pub risen_by : ℕ → Elements → Rise → Risen
risen_by depth E r = record { top = length r.kept; elements = with ((r.kept ++ r.risen) ++ drop depth E.list) E }

unfoldable pub risen_in : Plan → ℕ → ℕ → Elements → Risen
risen_in P a depth E = risen_by depth E (rise P a (take depth E.list))

unfoldable pub refreshed_from : Plan → ℕ → ℕ → ℕ → Elements → Elements
refreshed_from P s from to E =
    with (take from E.list ++ (refresh P s (take (to - from) (drop from E.list)) ++ drop to E.list)) E

-- by what has risen through the first `depth`
abbrev pub pushed_by : Plan → ℕ → ℕ → Elements → Rise → Risen
pushed_by P x depth E r =
    record { top = length r.kept; elements = with (frames_after P x (take depth E.list) r ++ drop (depth + 1) E.list) E }

unfoldable pub pushed_in : Plan → ℕ → ℕ → Elements → Risen
pushed_in P x depth E = pushed_by P x depth E (rise P (without (meet (named P x) P.plain) P.main) (take depth E.list))
