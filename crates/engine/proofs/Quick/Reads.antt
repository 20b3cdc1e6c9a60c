-- What a session reads off the quick engine's state.
--
--   quick_begun        before the first event
--   quick_held         the queue holds the held nodes;  quick_waiting: as many
--   quick_depth, quick_ends      the frames give the depth and the innermost name
--   quick_levels       no node waits deeper than that
--   quick_met          what an element meets is no wider than the query
--
-- By definition of quick_state, `opened` is count d, `handed` is the number of listed nodes, and `ended` is finished d.
-- Assumes nothing, of the query neither.
use Rattle.std.specs.Prelude.{ℕ, zero, suc, ◌^◌, ◌≤◌, ◌<◌, ◌≡◌, not, ◌&&◌, eqb, length, get_or}
use Rattle.std.proofs.Common.{lt_of_lt_of_le, sym, ap, ◌∙◌, subst, pow_pos, pow_mono}
use Rattle.std.proofs.Math.Path.{refl}
use mathlib.Core.List.{List, [], ◌∷◌, map, map-map}
use Rattle.std.proofs.Math.Dec.{eqb-suc-zero}
use Rattle.std.proofs.Math.ListN.{length-map}
use Rattle.meaning.specs.Query.{Query, Steps}
use Rattle.meaning.specs.Document.{Node, Row, Doc, done, within, blank, count_row, count, depth, finished, ends_at}
use Rattle.meaning.specs.Selection.{Ready, ReadyOf, start, marks_row, marks, selections}
use Rattle.meaning.specs.Standing.{standings_of, standings, listed_from, listed, held}
use Rattle.engine.proofs.Every.{Every, e_nil, e_cons, every_all, every_mapped}
use Rattle.engine.specs.Need.{NeedOf, needs}
use Rattle.engine.specs.Engine as Engine
use Rattle.engine.specs.Engine.{keep, past}
use Rattle.engine.specs.StateOf.{frames_of, places, number, frames_at, nodes, state_of}
use Rattle.engine.proofs.StateOf.Standings.{queue_held}
use Rattle.plan.specs.Plan.{plan}
use Rattle.plan.proofs.Masks.{plan_size, meets_under}
use Rattle.engine.specs.Hom.{frame_in, waiting_in}
use Rattle.engine.specs.MaskOps.{masks, mask_state}
use Rattle.engine.specs.Quick.{Waiting, begun, name_at, met_at}
use Rattle.engine.specs.Quick.Of.{frame_shown, waiting_shown, quick_state}
use Rattle.engine.proofs.Quick.Lists.{layers_low}
use Rattle.engine.proofs.Quick.Waits.{queue_layers, length_masks}

module _ (q : Query) (d : Doc) where
  pub quick_held : map (λ w. w.node) (quick_state q d).queue ≡ held q d
  unfolding quick_state mask_state
  quick_held =
      map-map (λ (w : Waiting). w.node) waiting_shown (map (waiting_in (masks q)) (state_of q d).queue)
      ∙ map-map (λ (w : Engine.Waiting (NeedOf ℕ)). w.number) (waiting_in (masks q)) (state_of q d).queue
      ∙ queue_held q d

  pub quick_waiting : length (quick_state q d).queue ≡ length (held q d)
  quick_waiting = sym (length-map (quick_state q d).queue (λ w. w.node)) ∙ ap length quick_held

  pub quick_depth : length (quick_state q d).frames ≡ depth d
  unfolding quick_state
  quick_depth = length-map (mask_state q d).frames (frame_shown (plan q)) ∙ length_masks q d

pub quick_begun : (q : Query) → quick_state q blank ≡ begun
unfolding quick_state begun mask_state state_of frames_at frames_of nodes number places needs keep past count count_row finished
    listed listed_from standings standings_of selections marks marks_row
quick_begun q = refl

name_at_lem :
    (q : Query) (p : Row) (x : Node) (d : Doc) (rs rp : Ready) (n : ℕ) →
    ends_at n (within p x d) ≡ eqb (get_or (map (λ f. f.node.name) (frames_of q (within p x d) rs rp)) (depth d) 0) n
unfolding ends_at frames_of depth
name_at_lem q p x (done k) rs rp n = refl
name_at_lem q p x (within p' x' d) rs rp n = name_at_lem q p' x' d _ _ n

abbrev names : Query → List (Engine.Frame Steps Ready) → List ℕ
names q fs = map (λ f. f.name) (map (frame_shown (plan q)) (map (frame_in (masks q)) fs))

names_shown : (q : Query) (fs : List (Engine.Frame Steps Ready)) → names q fs ≡ map (λ f. f.node.name) fs
names_shown q [] = refl
names_shown q (f ∷ fs) = ap (◌∷◌ f.node.name) (names_shown q fs)

pub quick_ends : (q : Query) (n : ℕ) (d : Doc) → ends_at n d ≡ (not (eqb (depth d) 0) && eqb (name_at (quick_state q d).frames (depth d)) n)
unfolding quick_state name_at depth mask_state state_of frames_at
quick_ends q n (done f) = unfold ends_at in refl
quick_ends q n (within p x d) =
    name_at_lem q p x d start start n
    ∙ ap (λ ns. eqb (get_or ns (depth d) 0) n) (sym (names_shown q (frames_of q (within p x d) start start)))
    ∙ ap (λ b. not b && eqb (get_or (names q (frames_of q (within p x d) start start)) (depth d) 0) n) (sym (eqb-suc-zero (depth d)))

pub quick_levels : (q : Query) (d : Doc) → Every (λ w. w.level ≤ depth d) (quick_state q d).queue
unfolding quick_state
quick_levels q d = every_mapped waiting_shown (layers_low (λ w. w.place.level) (depth d) (queue_layers q d))

under_at : (b : ℕ) → 0 < b → {xs : List ℕ} → Every (λ x. x < b) xs → (l : ℕ) → get_or xs l 0 < b
under_at b z e_nil l = z
under_at b z (e_cons h t) zero = h
under_at b z (e_cons h t) (suc l) = under_at b z t l

pub quick_met : (q : Query) (d : Doc) (w l : ℕ) → length q ≤ w → met_at (quick_state q d).frames l < 2 ^ w
unfolding quick_state met_at
quick_met q d w l h =
    under_at (2 ^ w) (pow_pos w)
    (e_cons (pow_pos w)
    (every_mapped (λ f. f.met)
    (every_mapped (frame_shown (plan q)) (every_all (λ f. lt_of_lt_of_le (met f) (pow_mono h)) (mask_state q d).frames)))) l
  where
    met : (f : Engine.Frame ℕ (ReadyOf ℕ)) → (frame_shown (plan q) f).met < 2 ^ length q
    met f = subst (λ n. (frame_shown (plan q) f).met < 2 ^ n) (plan_size q) (meets_under (plan q) _ f.below)
