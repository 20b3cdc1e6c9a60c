-- How the prescribed frames change with an event, and what they are read with.
--
--   met_opened         what is met after an open: as before, and what has risen
--   frames_open        the frames after an open are the engine's `grow` of the frames before; `sure` of those is not read
--   frames_close       the frames after a close are all but the last
--   length_frames      there is a frame for each open element
--   readies q v d r    what the levels are read with in the reading v, r being that of level 0
--   sures_readies, possibles_readies      the frames hold them
--
-- Assumes nothing.
use Rattle.std.specs.Prelude.{suc, ◌≡◌, refl, Bool, true, false, ◌||◌, length}
use Rattle.std.proofs.Common.{sym, ap, ◌∙◌}
use mathlib.Core.List.{List, [], ◌∷◌, map, drop_last}
use Rattle.meaning.specs.Logic.{Imp}
use Rattle.meaning.specs.Query.{Query, Steps}
use Rattle.meaning.specs.Document.{Node, Doc, done, within, opened, closed, depth}
use Rattle.meaning.specs.Selection.{Reading, sure-reading, open-reading, granted, named, meets, join, lift, met_row, met, Ready, turn}
use Rattle.meaning.proofs.Selection.Laws.{meets_in, Within, within_join, lift_mono, meets_mono, meets_granted, met_close}
use Rattle.meaning.specs.Logic.{imp}
use Rattle.plan.specs.Any.{sets_ext}
use Rattle.engine.specs.Engine.{rise, frame_of, grow}
use Rattle.engine.specs.StateOf.{ops, frames_of}

-- an open

or_absorbs : (a l l' : Bool) → Imp l l' → (a || l') ≡ ((a || l) || l')
or_absorbs true l l' f = refl
or_absorbs false true true f = refl
or_absorbs false true false f = absurd (f.to tt)
or_absorbs false false l' f = refl

join_absorbs : (P L L' : Steps) → Within L L' → join P L' ≡ join (join P L) L'
unfolding join
join_absorbs P L L' f = sets_ext (λ st s. or_absorbs (P st s) (L st s) (L' st s) (f st s))

lift_grows : (q : Query) (x : Node) (B A : Steps) → Within (lift (meets q false x B) B) (lift (meets q false x (join B A)) (join B A))
lift_grows q x B A =
    lift_mono Imp imp _ _ _ _ (meets_mono Imp imp q false false x B (join B A) (imp.same false) (within_join B A)) (within_join B A)

pub met_opened :
    (q : Query) (y : Node) (d : Doc) (rs rp : Ready) →
    met q sure-reading (opened y d) ≡ join (met q sure-reading d) (rise (ops q) y (frames_of q d rs rp))
unfolding met met_row opened rise frames_of granted
met_opened q y (done f) rs rp = refl
met_opened q y (within p x d) rs rp =
    ap (λ K. join (met_row q p) (lift (meets q false x K) K)) (met_opened q y d _ _)
    ∙ join_absorbs (met_row q p) (lift (meets q false x (met q sure-reading d)) (met q sure-reading d)) _ (lift_grows q x (met q sure-reading d) _)

pub frames_open :
    (q : Query) (y : Node) (d : Doc) (rs rs' rp : Ready) → frames_of q (opened y d) rs' rp ≡ grow (ops q) y rs' rp (frames_of q d rs rp)
unfolding frames_of opened grow met met_row
frames_open q y (done f) rs rs' rp = refl
frames_open q y (within p x d) rs rs' rp =
    ap (λ B. frame_of (ops q) x B rs' rp' ∷ frames_of q (opened y d) (turn q (meets q false x B) rs') rp') (met_opened q y d rs₁ rp')
    ∙ ap (◌∷◌ (frame_of (ops q) x B₁ rs' rp')) (frames_open q y d rs₁ (turn q (meets q false x B₁) rs') rp')
  where
    rp' : Ready
    rp' = turn q (named x) rp

    rs₁ : Ready
    rs₁ = turn q (meets q false x (met q sure-reading d)) rs

    B₁ : Steps
    B₁ = join (met q sure-reading d) (rise (ops q) y (frames_of q d rs₁ rp'))

-- a close

pub frames_close : (q : Query) (d : Doc) (rs rp : Ready) → frames_of q (closed d) rs rp ≡ drop_last (frames_of q d rs rp)
unfolding frames_of closed
frames_close q (done f) rs rp = refl
frames_close q (within p x (done k)) rs rp = refl
frames_close q (within p x (within p' x' d)) rs rp =
    ap (λ B. frame_of (ops q) x B rs (turn q (named x) rp) ∷ frames_of q (closed (within p' x' d)) (turn q (meets q false x B) rs)
    (turn q (named x) rp))
    (met_close q (within p' x' d))
    ∙ ap (◌∷◌ (frame_of (ops q) x (met q sure-reading (within p' x' d)) rs (turn q (named x) rp))) (frames_close q (within p' x' d) _ _)

pub length_frames : (q : Query) (d : Doc) (rs rp : Ready) → length (frames_of q d rs rp) ≡ depth d
unfolding frames_of depth
length_frames q (done f) rs rp = refl
length_frames q (within p x d) rs rp = ap suc (length_frames q d _ _)

-- the readys

unfoldable pub readies : Query → Reading → Doc → Ready → List Ready
readies q v (done f) r = r ∷ []
readies q v (within p x d) r = r ∷ readies q v d (turn q (meets_in q v x d) r)

pub sures_readies : (q : Query) (d : Doc) (rs rp : Ready) → rs ∷ map (λ f. f.sure) (frames_of q d rs rp) ≡ readies q sure-reading d rs
unfolding frames_of readies granted
sures_readies q (done f) rs rp = refl
sures_readies q (within p x d) rs rp = ap (◌∷◌ rs) (sures_readies q d _ _)

open_named : (q : Query) (x : Node) (d : Doc) → meets_in q open-reading x d ≡ named x
unfolding granted
open_named q x d = sets_ext (meets_granted q x (met q open-reading d))

pub possibles_readies : (q : Query) (d : Doc) (rs rp : Ready) → rp ∷ map (λ f. f.possible) (frames_of q d rs rp) ≡ readies q open-reading d rp
unfolding frames_of readies
possibles_readies q (done f) rs rp = refl
possibles_readies q (within p x d) rs rp =
    ap (◌∷◌ rp) (possibles_readies q d _ _ ∙ ap (λ M. readies q open-reading d (turn q M rp)) (sym (open_named q x d)))
