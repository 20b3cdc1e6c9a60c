-- What the functions on the waiting nodes do to all records: the engine's own functions (crate engine, Quick) on the records in use, the others as they
-- were. A loop is a function that goes on from where the loop stands.
--
--   with ws N                 the records N with the waiting nodes ws
--   level_of w, numbers ws     the level of a node; the numbers of nodes
--   Moved                     how many nodes wait, and the records
--   kept_if stays end .. N     record `end` is this node where it stays
--   moved_from P m ready to held i end N    the nodes from i to `held` move up to level `to` and stand from `end` on; those ruled out leave
--   shifted k held i N        the nodes from i + k to `held` stand from i on
--   Handed                    the records and the buffer
--   handed_out k held N out    the first k of `held` nodes are handed out
--   Joined                    how many nodes wait, the records and the buffer
--   joined go held number level N out      the nodes that go are handed out; the new node goes too, or joins, or is ruled out
--
-- Assumes nothing.
pub mod Laws
use Rattle.std.specs.Prelude.{ℕ, ◌+◌, ◌-◌, Bool, List, [], ◌∷◌, ◌++◌, map, length, take, drop}
use Rattle.choice.specs.When.{when}
use Rattle.plan.specs.Plan.{Plan}
use Rattle.engine.specs.Quick.{Waiting, stay}
use Rattle.records.specs.Write.{buffer}
use Rattle.node.specs.Node.{Queue, wrote_in}
use Rattle.nodes.specs.declared.Going.{Going}

abbrev pub with : List Waiting → Queue → Queue
with ws N = record { list = ws; spare = N.spare }

abbrev pub level_of : Waiting → ℕ
level_of w = w.level

abbrev pub numbers : List Waiting → List ℕ
numbers ws = map (λ w. w.node) ws

pub record Moved : Type 0 where
  pub held : ℕ
  pub queue : Queue

unfoldable pub kept_if : Bool → ℕ → ℕ → ℕ → ℕ → Queue → Moved
kept_if stays end node level need N =
    when stays (record { held = end + 1; queue = wrote_in end node level need N }) (record { held = end; queue = N })

-- by those that stay
abbrev pub moved_by : ℕ → Queue → List Waiting → Moved
moved_by end N stays =
    record { held = end + length stays; queue = with (take end N.list ++ (stays ++ drop (end + length stays) N.list)) N }

unfoldable pub moved_from : Plan → ℕ → ℕ → ℕ → ℕ → ℕ → ℕ → Queue → Moved
moved_from P m ready to held i end N = moved_by end N (stay P m to ready (drop i (take held N.list)))

unfoldable pub shifted : ℕ → ℕ → ℕ → Queue → Queue
shifted k held i N = with (take i N.list ++ (drop (i + k) (take held N.list) ++ drop (held - k) N.list)) N

pub record Handed : Type 0 where
  pub queue : Queue
  pub out : List ℕ

unfoldable pub handed_out : ℕ → ℕ → Queue → List ℕ → Handed
handed_out k held N out = record { queue = shifted k held 0 N; out = buffer (numbers (take k N.list)) out }

pub record Joined : Type 0 where
  pub held : ℕ
  pub queue : Queue
  pub out : List ℕ

-- with the records and the buffer after `went` nodes went
abbrev pub joined_to : Bool → ℕ → ℕ → ℕ → Handed → Joined
joined_to joins rest number level h =
    when joins
    (record { held = rest + 1; queue = wrote_in rest number level 0 h.queue; out = h.out })
    (record { held = rest; queue = h.queue; out = h.out })

unfoldable pub joined : Going → ℕ → ℕ → ℕ → Queue → List ℕ → Joined
joined go held number level N out =
    when go.all
    (record { held = 0; queue = N; out = buffer (numbers (take go.went N.list) ++ (number ∷ [])) out })
    (joined_to go.joins (held - go.went) number level (handed_out go.went held N out))
