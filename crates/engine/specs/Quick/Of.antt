-- The quick engine's state after a document: the engine's state in masks, with what the quick engine keeps at hand and without what it
--
-- Assumes nothing. What is shown of them is in proofs/Quick/Of.
use Rattle.std.specs.Prelude.{ℕ, map, length}
use Rattle.meaning.specs.Query.{Query}
use Rattle.meaning.specs.Document.{Doc, count, finished}
use Rattle.meaning.specs.Selection.{ReadyOf}
use Rattle.meaning.specs.Standing.{listed}
use Rattle.engine.specs.Need.{NeedOf, itself, one_of}
use Rattle.engine.specs.Engine as Engine
use Rattle.plan.specs.Plan.{Plan, plan, named, meets}
use Rattle.engine.specs.MaskOps.{mask_state}
use Rattle.engine.specs.Quick.{Frame, Waiting, State}

abbrev pub frame_shown : Plan → Engine.Frame ℕ (ReadyOf ℕ) → Frame
frame_shown P f =
    record {
      name = f.node.name;
      pass = named P f.node.name;
      below = f.below;
      met = meets P (named P f.node.name) f.below;
      sure = f.sure.steps;
      possible = f.possible.steps;
    }

abbrev pub need_shown : NeedOf ℕ → ℕ
need_shown itself = 0
need_shown (one_of N) = N

abbrev pub waiting_shown : Engine.Waiting (NeedOf ℕ) → Waiting
waiting_shown w = record { node = w.number; level = w.place.level; need = need_shown w.place.need }

unfoldable pub quick_state : Query → Doc → State
quick_state q d =
    record {
      frames = map (frame_shown (plan q)) (mask_state q d).frames;
      queue = map waiting_shown (mask_state q d).queue;
      opened = count d;
      handed = length (listed q d);
      ended = finished d;
    }
