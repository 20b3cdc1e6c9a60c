-- The engine's sets, readys and needs as masks in the order of a query.
--
--   mask_ops P          the plan's operations, as the engine wants them
--   masks q            how the meaning's sets become masks: what an element meets in the order of q, the predicate steps of what is
--                      below it, readys and needs along its path
--   mask_state q d      the state after d, in masks
--
-- Assumes nothing. That the operations agree, for an admitted query, is shown in MaskOps.Laws. Here a Ready still says whether the last
-- step was given, and a need says "itself": Quick has neither.
use Rattle.std.specs.Prelude.{ℕ, Bool, true, false}
use Rattle.meaning.specs.Query.{Query, Steps}
use Rattle.meaning.specs.Document.{Doc}
use Rattle.meaning.specs.Selection.{Ready, ReadyOf}
use Rattle.sets.specs.Set.{join, without, overlaps}
use Rattle.engine.specs.Need.{NeedOf, Need, itself, one_of}
use Rattle.engine.specs.Engine.{Ops, State}
use Rattle.engine.specs.Hom.{Coat, state_in}
use Rattle.engine.specs.StateOf.{state_of}
use Rattle.plan.specs.Order.{back_path, order, mask}
use Rattle.plan.specs.Plan.{Plan, plan, named, meets, lift, turn, last_given, up_if}

unfoldable pub value : ReadyOf ℕ → NeedOf ℕ → Bool
value r itself = r.end
value r (one_of N) = overlaps N r.steps

unfoldable pub up : Plan → ℕ → NeedOf ℕ → NeedOf ℕ
up P M itself = one_of (up_if true P M 0)
up P M (one_of N) = one_of (up_if false P M N)

abbrev pub mask_ops : Plan → Ops ℕ ℕ (ReadyOf ℕ) (NeedOf ℕ)
mask_ops P =
    record {
      none = 0;
      empty = 0;
      join = join;
      lift = lift P;
      named = λ x. named P x.name;
      meets = λ x K. meets P (named P x.name) K;
      turn = λ M r. record { steps = turn P M r.steps; end = last_given M r.steps };
      start = record { steps = P.first; end = false };
      value = value;
      up = up P;
      itself = itself;
    }

unfoldable pub need_mask : Query → Need → NeedOf ℕ
need_mask q itself = itself
need_mask q (one_of N) = one_of (mask (back_path q) N)

abbrev pub masks : Query → Coat Steps Steps Ready Need ℕ ℕ (ReadyOf ℕ) (NeedOf ℕ)
masks q =
    record {
      set = mask (order q);
      below = λ K. without (mask (order q) K) (plan q).main;
      ready = λ r. record { steps = mask (back_path q) r.steps; end = r.end };
      need = need_mask q;
    }

unfoldable pub mask_state : Query → Doc → State ℕ (ReadyOf ℕ) (NeedOf ℕ)
mask_state q d = state_in (masks q) (state_of q d)
