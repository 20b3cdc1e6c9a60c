-- The waiting nodes as they stand in lent bytes: a record of 8 numbers for each.
--
--   shape               a node's record: its waiting node (crate engine, Quick) is its first numbers, one for each field
--   place g             where a field stands in a record
--   Queue               all records: their waiting nodes, used or not, and their spare numbers;  queue_in bs: those in bytes
--   node_at N i          the waiting node of record i
--   wrote_in             what `write` does, to record i alone
--
-- There are as many records as nodes may be held (crate meaning, Limits).
-- Assumes nothing. NOT here: how many of the records are in use (crate step).
pub mod Laws
use Rattle.std.specs.Prelude.{ℕ, List, [], ◌∷◌, get_or}
use Rattle.meaning.specs.Limits.{held_limit}
use Rattle.engine.specs.Quick.{Waiting}
use Rattle.node.specs.declared.Field.{Field}
use Rattle.node.specs.declared.Field.TheVariants.{Node, Level, Need}
use Rattle.words.specs.Records.{Shape, Records, set_at, blank, records_in, at}

abbrev pub waiting_of : (ℕ → ℕ) → Waiting
waiting_of r = record { node = r 0; level = r 1; need = r 2 }

abbrev pub field_of : ℕ → Waiting → ℕ
field_of g w = get_or (w.node ∷ w.level ∷ w.need ∷ []) g 0

abbrev pub place : Field → ℕ
place Node = 0
place Level = 1
place Need = 2

abbrev pub shape : Shape Waiting
shape = record { count = held_limit; wide = 8; fields = 3; make = waiting_of; field = field_of }

abbrev pub Queue : Type 0
Queue = Records Waiting

unfoldable pub queue_in : List ℕ → Queue
queue_in bs = records_in shape bs

abbrev pub no_node : Waiting
no_node = blank shape

abbrev pub node_at : Queue → ℕ → Waiting
node_at N i = at shape N i

unfoldable pub wrote_in : ℕ → ℕ → ℕ → ℕ → Queue → Queue
wrote_in i node level need N = set_at i (record { node = node; level = level; need = need }) N
