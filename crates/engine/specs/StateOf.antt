-- The state that the meaning prescribes for a document. The engine's invariant is an equation with it.
--
--   ops q              the meaning's sets, readys and needs, as the engine wants them; what is below is a set like any other
--   frames_of q d rs rp     the open elements of the content d, around which the readys are rs (sure) and rp (open reading)
--   places q d         where each node of d waits and what it needs there, in document order
--   number i xs        places as waiting nodes, the first having number i;  number_of w: the number of one
--   frames_at q d, nodes q d     the same of a whole document: its open elements, all its nodes
--   state_of q d        the state after d: of the nodes, those held
--
-- Assumes nothing. The theorems are in StateOf.Theorem: an open or a close of the engine leads from state_of q d to the state_of of
-- the next document, and hands out what is newly listed.
use Rattle.std.specs.Prelude.{ℕ, zero, suc, false, List, [], ◌∷◌, ◌++◌, map}
use Rattle.meaning.specs.Query.{Query, Steps}
use Rattle.meaning.specs.Document.{Doc, done, within, count}
use Rattle.meaning.specs.Selection.{sure-reading, named, meets, join, empty, lift, met, Ready, turn, start}
use Rattle.engine.specs.Need.{Need, itself, value, up, needs}
use Rattle.engine.specs.Engine.{Ops, Frame, Place, Waiting, State, keep, past, certain, alive}

abbrev pub ops : Query → Ops Steps Steps Ready Need
ops q =
    record {
      none = empty;
      empty = empty;
      join = join;
      lift = lift;
      named = named;
      meets = meets q false;
      turn = turn q;
      start = start;
      value = value q;
      up = up q;
      itself = itself;
    }

abbrev pub number_of : Waiting Need → ℕ
number_of w = w.number

unfoldable pub frames_of : Query → Doc → Ready → Ready → List (Frame Steps Ready)
frames_of q (done f) rs rp = []
frames_of q (within p x d) rs rp =
    record { node = x; below = met q sure-reading d; sure = turn q (meets q false x (met q sure-reading d)) rs; possible = turn q (named x) rp }
    ∷ frames_of q d (turn q (meets q false x (met q sure-reading d)) rs) (turn q (named x) rp)

abbrev pub here : Need → Place Need
here n = record { level = zero; need = n }

abbrev pub deeper : Place Need → Place Need
deeper x = record { level = suc x.level; need = x.need }

-- an open element waits at its own level for itself; what is closed waits around it, where nothing can change its need
unfoldable pub places : Query → Doc → List (Place Need)
places q (done f) = map here (needs q f)
places q (within p x d) = map here (needs q p) ++ (deeper (here itself) ∷ map deeper (places q d))

unfoldable pub number : ℕ → List (Place Need) → List (Waiting Need)
number i [] = []
number i (x ∷ xs) = record { number = i; place = x } ∷ number (suc i) xs

unfoldable pub frames_at : Query → Doc → List (Frame Steps Ready)
frames_at q d = frames_of q d start start

unfoldable pub nodes : Query → Doc → List (Waiting Need)
nodes q d = number 1 (places q d)

unfoldable pub state_of : Query → Doc → State Steps Ready Need
state_of q d =
    record {
      frames = frames_at q d;
      queue = past (certain (ops q) (frames_at q d)) (keep (alive (ops q) (frames_at q d)) (nodes q d));
      opened = count d;
    }
