-- Frames that agree with one another, as those of a document do: the reason why what has not changed need not be computed again.
--
--   Gathered O K fs         under an element with K met in it: what each frame comes to has been joined to what is met above it
--   Turned O r fs      in the sure reading each frame is read with the turn of the one above, the first with r's
--   fed_masks, turned_masks      the frames of a document agree so, in masks
--
-- Assumes T (admits q).
use Rattle.std.specs.Prelude.{ℕ, ◌≡◌, refl, Bool, true, false, ◌||◌, List, [], ◌∷◌, map, T}
use Rattle.std.proofs.Common.{sym, ap, ◌∙◌}
use Rattle.std.proofs.Math.Path.{subst}
use Rattle.meaning.specs.Query.{Query, Steps, admits}
use Rattle.meaning.specs.Document.{Doc, done, within}
use Rattle.meaning.specs.Selection.{sure-reading, granted, join, met, Ready, ReadyOf, start}
use Rattle.plan.specs.Any.{sets_ext}
use Rattle.engine.specs.Need.{NeedOf}
use Rattle.engine.specs.Engine.{Ops, Frame}
use Rattle.engine.specs.StateOf.{ops, frames_of, frames_at, state_of}
use Rattle.engine.specs.Hom.{Coat, frame_in, Hom}
use Rattle.plan.specs.Plan.{plan}
use Rattle.engine.specs.MaskOps.{mask_ops, masks, mask_state}
use Rattle.engine.proofs.MaskOps.Laws.{mask_hom}

module _ {S B R N : Type 0} (O : Ops S B R N) where
  pub data Gathered : B → List (Frame B R) → Type 0 where
    g_nil : {K : B} → Gathered K []
    g_cons :
        {K : B} {f : Frame B R} {fs : List (Frame B R)} → O.join K (O.lift (O.meets f.node f.below) f.below) ≡ K →
        Gathered f.below fs → Gathered K (f ∷ fs)

  pub data Turned : R → List (Frame B R) → Type 0 where
    t_nil : {r : R} → Turned r []
    t_cons :
        {r : R} {f : Frame B R} {fs : List (Frame B R)} → f.sure ≡ O.turn (O.meets f.node f.below) r →
        Turned f.sure fs → Turned r (f ∷ fs)

-- of a document

join_again : (A B : Steps) → join (join A B) B ≡ join A B
unfolding join
join_again A B = sets_ext (λ st s. again (A st s) (B st s))
  where
    again : (a b : Bool) → ((a || b) || b) ≡ (a || b)
    again true b = refl
    again false true = refl
    again false false = refl

fed_of : (q : Query) (d : Doc) (rs rp : Ready) → Gathered (ops q) (met q sure-reading d) (frames_of q d rs rp)
unfolding frames_of met granted
fed_of q (done f) rs rp = g_nil
fed_of q (within p x d) rs rp = g_cons (join_again _ _) (fed_of q d _ _)

turned_of : (q : Query) (d : Doc) (rs rp : Ready) → Turned (ops q) rs (frames_of q d rs rp)
unfolding frames_of
turned_of q (done f) rs rp = t_nil
turned_of q (within p x d) rs rp = t_cons refl (turned_of q d _ _)

-- in another coat

module _
    {S B R N S' B' R' N' : Type 0} (O : Ops S B R N) (P : Ops S' B' R' N') (k : Coat S B R N S' B' R' N') (h : Hom O P k) where
  fed_hom : {K : B} {fs : List (Frame B R)} → Gathered O K fs → Gathered P (k.below K) (map (frame_in k) fs)
  fed_hom g_nil = g_nil
  fed_hom (g_cons {K} {f} e t) =
      g_cons
      (ap (P.join (k.below K)) (sym (h.lift _ _ ∙ ap (λ x. P.lift x (k.below f.below)) (h.meets f.node f.below)))
      ∙ sym (h.join K _)
      ∙ ap k.below e)
      (fed_hom t)

  turned_hom : {r : R} {fs : List (Frame B R)} → Turned O r fs → Turned P (k.ready r) (map (frame_in k) fs)
  turned_hom t_nil = t_nil
  turned_hom (t_cons {r} {f} e t) =
      t_cons (ap k.ready e ∙ h.turn _ r ∙ ap (λ x. P.turn x (k.ready r)) (h.meets f.node f.below)) (turned_hom t)

module _ (q : Query) (a : T (admits q)) (d : Doc) where
  abbrev O : Ops ℕ ℕ (ReadyOf ℕ) (NeedOf ℕ)
  O = mask_ops (plan q)

  pub fed_masks : Gathered O ((masks q).below (met q sure-reading d)) (mask_state q d).frames
  unfolding mask_state state_of frames_at
  fed_masks = fed_hom (ops q) O (masks q) (mask_hom q a) (fed_of q d start start)

  pub turned_masks : Turned O O.start (mask_state q d).frames
  unfolding mask_state state_of frames_at
  turned_masks =
      subst (λ r. Turned O r (map (frame_in (masks q)) (frames_of q d start start))) (mask_hom q a).start
      (turned_hom (ops q) O (masks q) (mask_hom q a) (turned_of q d start start))
