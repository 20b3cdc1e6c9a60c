-- What the engine keeps of a stream within the limits are numbers of 4 bytes.
--
--   Named d            the open elements of d have names;  named_stream: so it is after a stream
--   FrameSmall, WaitingSmall      each field is a number of 4 bytes
--   frames_small       so are the frames of the state that the meaning prescribes
--   queue_small        and its waiting nodes
--   every_at           what every member of a list is, the one at a place is
--
-- Assumes nothing.
use Rattle.std.specs.Prelude.{ℕ, zero, suc, ◌+◌, ◌^◌, ◌≤◌, ◌<◌, T, leb, length, get_or}
use Rattle.std.proofs.Common.{lt_of_lt_of_le, leb→le, pow_mono}
use native.Mathlib.Omega.{arith}
use mathlib.Core.List.{List, [], ◌∷◌}
use Rattle.std.proofs.Math.ListN.{length-append}
use Rattle.meaning.specs.Logic.{and_l, and_r}
use Rattle.meaning.specs.Name.{last_name, is_name}
use Rattle.meaning.specs.Limits.{depth_limit, node_limit}
use Rattle.meaning.proofs.Limits.Laws.{depth_is, node_limit_is}
use Rattle.meaning.specs.Query.{Query, Steps}
use Rattle.meaning.specs.Document.{Node, Row, Doc, done, within, blank, opened, closed, count, depth}
use Rattle.meaning.specs.Selection.{Ready, start}
use Rattle.meaning.specs.Stream.{Event, opens, closes, fits, act, run, document, always, Stream}
use Rattle.sets.specs.Set.{without}
use Rattle.sets.proofs.Set.Of.{mask_of_under}
use Rattle.plan.specs.Every.{Every, e_nil, e_cons, every_map, every_both, every_mapped}
use Rattle.plan.specs.Order.{back_path, predicates, order, mask}
use Rattle.plan.proofs.Places.Laws.{order_length}
use Rattle.plan.specs.Plan.{plan, named}
use Rattle.plan.proofs.Masks.{plan_size, named_under, meets_under}
use Rattle.engine.proofs.Every.{every_keep, every_past}
use Rattle.engine.specs.Need.{Need, itself, one_of}
use Rattle.engine.specs.Engine as Engine
use Rattle.engine.specs.Hom.{frame_in, waiting_in}
use Rattle.engine.specs.MaskOps.{masks, need_mask, mask_state}
use Rattle.engine.specs.StateOf.{frames_of, places, number, frames_at, nodes, state_of}
use Rattle.engine.proofs.StateOf.Places.{length_places}
use Rattle.engine.specs.Quick.{Frame, Waiting}
use Rattle.engine.specs.Quick.Of.{frame_shown, need_shown, waiting_shown, quick_state}
use Rattle.engine.proofs.Quick.Reads.{quick_levels}
use Rattle.element.specs.Element as element
use Rattle.node.specs.Node as node

abbrev pub FrameSmall : Frame → Type 0
FrameSmall f = (g : ℕ) → element.field_of g f < 4294967296

abbrev pub WaitingSmall : Waiting → Type 0
WaitingSmall w = (g : ℕ) → node.field_of g w < 4294967296

pub every_at : {A : Type 0} {F : A → Type 0} {xs : List A} → Every F xs → (d : A) (i : ℕ) → i < length xs → F (get_or xs i d)
every_at e_nil d i h = absurd (omega arith)
every_at (e_cons a t) d zero h = a
every_at (e_cons a t) d (suc i) h = every_at t d i (omega arith)

-- the names of the open elements

pub data Named : Doc → Type 0 where
  none_open : {f : Row} → Named (done f)
  one_open : {p : Row} {x : Node} {d : Doc} → x.name ≤ last_name → Named d → Named (within p x d)

named_opened : {d : Doc} (x : Node) → x.name ≤ last_name → Named d → Named (opened x d)
unfolding opened
named_opened x h none_open = one_open h none_open
named_opened x h (one_open k n) = one_open k (named_opened x h n)

named_closed : {d : Doc} → Named d → Named (closed d)
unfolding closed
named_closed none_open = none_open
named_closed (one_open k none_open) = none_open
named_closed (one_open k (one_open l n)) = one_open k (named_closed (one_open l n))

named_run : (es : List Event) (d : Doc) → T (always fits es d) → Named d → Named (run es d)
unfolding run always fits act is_name
named_run [] d t n = n
named_run (e ∷ es) d t n = named_run es (act e d) (and_r (fits e d) _ t) (by e (and_l (fits e d) _ t))
  where
    by : (e : Event) → T (fits e d) → Named (act e d)
    by (opens x) f = named_opened (record { name = x }) (leb→le x last_name (and_r (leb 1 x) _ (and_l (is_name x) _ f))) n
    by (closes x) f = named_closed n

pub named_stream : (es : List Event) → Stream es → Named (document es)
unfolding document
named_stream es t = named_run es blank t none_open

-- frames

module _ (q : Query) (few : length q ≤ 32) where
  under : {x : ℕ} (n : ℕ) → x < 2 ^ n → n ≤ 32 → x < 4294967296
  under n h k = lt_of_lt_of_le h (pow_mono k)

  path_few : length (back_path q) ≤ 32
  unfolding order
  path_few = omega (arith, length-append (back_path q) (predicates q 1), order_length q)

  path_small : (A : Steps) → mask (back_path q) A < 4294967296
  unfolding mask
  path_small A = under (length (back_path q)) (mask_of_under (length (back_path q)) _) path_few

  below_small : (A : Steps) (m : ℕ) → without (mask (order q) A) m < 4294967296
  unfolding without mask
  below_small A m =
      let h : mask (order q) A < 4294967296 = under (length (order q)) (mask_of_under (length (order q)) _) (omega (arith, order_length q)) in omega arith

  frame_small : (f : Engine.Frame Steps Ready) → f.node.name ≤ last_name → FrameSmall (frame_shown (plan q) (frame_in (masks q) f))
  frame_small f h zero = omega arith
  frame_small f h (suc zero) = under (length (plan q).tests) (named_under (plan q) f.node.name) (omega (arith, plan_size q))
  frame_small f h (suc (suc zero)) = below_small f.below (plan q).main
  frame_small f h (suc (suc (suc zero))) =
      under (length (plan q).tests) (meets_under (plan q) (named (plan q) f.node.name) ((masks q).below f.below)) (omega (arith, plan_size q))
  frame_small f h (suc (suc (suc (suc zero)))) = path_small f.sure.steps
  frame_small f h (suc (suc (suc (suc (suc zero))))) = path_small f.possible.steps
  frame_small f h (suc (suc (suc (suc (suc (suc g)))))) = omega arith

  named_frames : {d : Doc} → Named d → (rs rp : Ready) → Every (λ f. f.node.name ≤ last_name) (frames_of q d rs rp)
  unfolding frames_of
  named_frames none_open rs rp = e_nil
  named_frames (one_open h n) rs rp = e_cons h (named_frames n _ _)

  pub frames_small : (d : Doc) → Named d → Every FrameSmall (quick_state q d).frames
  unfolding quick_state mask_state state_of frames_at
  frames_small d n = every_mapped (frame_shown (plan q)) (every_mapped (frame_in (masks q)) (every_map frame_small (named_frames n start start)))

  -- waiting nodes

  need_small : (n : Need) → need_shown (need_mask q n) < 4294967296
  unfolding need_mask
  need_small itself = omega arith
  need_small (one_of N) = path_small N

  numbers_under : (k i : ℕ) (xs : List (Engine.Place Need)) → i + length xs ≤ k → Every (λ w. w.number < k) (number i xs)
  unfolding number
  numbers_under k i [] h = e_nil
  numbers_under k i (x ∷ xs) h =
      let here : i < k = omega arith in e_cons {x = record { number = i; place = x }} here (numbers_under k (suc i) xs (omega arith))

  module _ (d : Doc) (opened-few : count d ≤ node_limit) (deep : depth d ≤ depth_limit) where
    record Shown (w : Waiting) : Type 0 where
      node : w.node ≤ node_limit
      need : w.need < 4294967296

    shown : (w : Engine.Waiting Need) → w.number < suc node_limit → Shown (waiting_shown (waiting_in (masks q) w))
    shown w h = record { node = omega arith; need = need_small w.place.need }

    queue_shown : Every Shown (quick_state q d).queue
    unfolding quick_state mask_state state_of nodes
    queue_shown =
        every_mapped waiting_shown
        (every_mapped (waiting_in (masks q))
        (every_past _ (every_keep _ (every_map shown (numbers_under (suc node_limit) 1 (places q d) (omega (arith, length_places q d)))))))

    waiting_small : (w : Waiting) → Shown w → w.level ≤ depth d → WaitingSmall w
    waiting_small w s l zero = omega (arith, node_limit_is, s.node)
    waiting_small w s l (suc zero) = omega (arith, depth_is)
    waiting_small w s l (suc (suc zero)) = s.need
    waiting_small w s l (suc (suc (suc g))) = omega arith

    pub queue_small : Every WaitingSmall (quick_state q d).queue
    queue_small = every_both waiting_small queue_shown (quick_levels q d)
