-- What the quick engine reads off its frames is what the engine reads off its own.
--
--   Sound n w          the waiting node w is at a level up to n and has a need; if it waits for itself, it is not at the document's level
--   possible_steps         a level's turn in the open reading
--   certain_shown      w is certain for the quick engine exactly if it is for the engine
--   went_counted       who goes is counted, looked for or not, where not looking finds none
--   exact_met          what the innermost element meets is its `met`
--
-- Assumes nothing but what is said of the frames.
use Prim.Native.Nat.{ℕ, zero, suc, ◌≤◌, ◌<◌}
use Rattle.std.proofs.Common.{arith, ◌∙◌}
use Rattle.std.specs.Prelude.{◌≡◌, Bool, true, false, eqb, length, get_or}
use Rattle.std.proofs.Math.Path.{refl, sym, ap}
use mathlib.Core.List.{List, [], ◌∷◌, map}
use Rattle.meaning.specs.Selection.{ReadyOf}
use Rattle.sets.specs.Set.{overlaps}
use Rattle.engine.specs.Need.{NeedOf, itself, one_of}
use Rattle.engine.specs.Engine as Engine
use Rattle.engine.specs.Engine.{sures, possibles, stands, exact}
use Rattle.plan.specs.Plan.{Plan, last_given}
use Rattle.engine.specs.MaskOps.{value, mask_ops}
use Rattle.engine.specs.Quick.{Frame, Waiting, met_at, sure_at, possible_at, certain_if, certain, counted, went_if}
use Rattle.engine.specs.Quick.Of.{frame_shown, need_shown, waiting_shown}
use Rattle.engine.proofs.Quick.Kept.{Turned, t_nil, t_cons}

abbrev F : Type 0
F = Engine.Frame ℕ (ReadyOf ℕ)

abbrev W : Type 0
W = Engine.Waiting (NeedOf ℕ)

abbrev pub SoundNeed : ℕ → NeedOf ℕ → Type 0
SoundNeed l itself = 0 < l
SoundNeed l (one_of N) = eqb N 0 ≡ false

pub record Sound (n : ℕ) (w : W) : Type 0 where
  pub low : w.place.level ≤ n
  pub needs : SoundNeed w.place.level w.place.need

module _ (P : Plan) where
  abbrev shown : List F → List Frame
  shown fs = map (frame_shown P) fs

  abbrev start : ReadyOf ℕ
  start = (mask_ops P).start

  -- in one reading: of a frame, `get` in the engine is `got` in the quick engine
  steps_at :
      (get : F → ReadyOf ℕ) (got : Frame → ℕ) → ((f : F) → (get f).steps ≡ got (frame_shown P f)) →
      (r d : ReadyOf ℕ) (fs : List F) (l : ℕ) → l ≤ length fs → (get_or (r ∷ map get fs) l d).steps ≡ get_or (r.steps ∷ map got (shown fs)) l 0
  steps_at get got same r d fs zero h = refl
  steps_at get got same r d [] (suc l) h = absurd (omega arith)
  steps_at get got same r d (f ∷ fs) (suc l) h =
      steps_at get got same (get f) d fs l (omega arith) ∙ ap (λ s. get_or (s ∷ map got (shown fs)) l 0) (same f)

  sure_steps : (fs : List F) (l : ℕ) → l ≤ length fs → (get_or (sures (mask_ops P) fs) l start).steps ≡ sure_at P (shown fs) l
  unfolding sures sure_at
  sure_steps = steps_at (λ f. f.sure) (λ f. f.sure) (λ f. refl) start start

  pub possible_steps : (fs : List F) (l : ℕ) → l ≤ length fs → (get_or (possibles (mask_ops P) fs) l start).steps ≡ possible_at P (shown fs) l
  unfolding possibles possible_at
  possible_steps = steps_at (λ f. f.possible) (λ f. f.possible) (λ f. refl) start start

  end_at :
      (d : ReadyOf ℕ) {r : ReadyOf ℕ} {fs : List F} → Turned (mask_ops P) r fs → (l : ℕ) → l < length fs →
      (get_or (map (λ f. f.sure) fs) l d).end
      ≡ last_given (get_or (map (λ f. f.met) (shown fs)) l 0) (get_or (r.steps ∷ map (λ f. f.sure) (shown fs)) l 0)
  end_at d t_nil l h = absurd (omega arith)
  end_at d (t_cons e t) zero h = ap (λ x. x.end) e
  end_at d (t_cons e t) (suc l) h = end_at d t l (omega arith)

  module _ {fs : List F} (turned : Turned (mask_ops P) start fs) where
    certain_at :
        (l : ℕ) (n : NeedOf ℕ) → l ≤ length fs → SoundNeed l n →
        value (get_or (sures (mask_ops P) fs) l start) n ≡ certain_if (eqb (need_shown n) 0) P (shown fs) l (need_shown n)
    unfolding value certain_if sures met_at sure_at
    certain_at zero itself h s = absurd (omega arith)
    certain_at (suc l) itself h s = end_at start turned l h
    certain_at l (one_of N) h s = ap (overlaps N) (sure_steps fs l h) ∙ sym (ap (λ b. certain_if b P (shown fs) l N) s)

    pub certain_shown : (w : W) → Sound (length fs) w → Engine.certain (mask_ops P) fs w ≡ certain P (shown fs) (waiting_shown w)
    unfolding Engine.certain stands certain
    certain_shown w s = certain_at w.place.level w.place.need s.low s.needs

  pub exact_met : (fs : List F) → met_at (shown fs) (length (shown fs)) ≡ exact (mask_ops P) fs
  unfolding met_at exact
  exact_met [] = refl
  exact_met (f ∷ []) = refl
  exact_met (f ∷ (f' ∷ fs)) = exact_met (f' ∷ fs)

pub went_counted :
    (b : Bool) (P : Plan) (fs : List Frame) (ws : List Waiting) → (b ≡ false → counted (certain P fs) ws ≡ 0) →
    went_if b P fs ws ≡ counted (certain P fs) ws
unfolding went_if
went_counted true P fs ws z = refl
went_counted false P fs ws z = sym (z refl)
