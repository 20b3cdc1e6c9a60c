-- The frames after an open: rising no further than there is news, and refreshing from the highest change, give what the engine computes
-- anew for every frame.
--
--   even, rise_even    the rise as if it went on without news after it has stopped
--   rise_carry         what the quick engine carries up comes to the same, joined to what is met above, as all that has risen
--   refresh_all        refreshing every frame is growing them
--   open_frames        the frames after an open are the engine's
--   rise_quiet         where none has risen all stay
--
-- Assumes that the frames agree with one another (Kept), and that an element in whose content nothing is met meets what `plain` says.
use Prim.Native.Nat.{ℕ}
use Rattle.std.specs.Prelude.{◌≡◌, ◌⊎◌, Bool, eqb, length, get_or}
use Rattle.std.proofs.Math.Path.{refl, sym, ap}
use Rattle.std.proofs.Common.{◌∙◌, inl, inr, eqb-true, eq-eqb}
use Rattle.std.proofs.Math.Bool.{true, false}
use mathlib.Core.List.{List, [], ◌∷◌, ◌++◌, map, append_assoc, cons-ne-nil}
use Rattle.std.specs.Int.Bits.{or_zero_r, and_zero_l}
use Rattle.meaning.specs.Document.{Node}
use Rattle.meaning.specs.Selection.{ReadyOf}
use Rattle.sets.specs.Set.{join, meet, without}
use Rattle.engine.specs.Need.{NeedOf}
use Rattle.engine.specs.Engine as Engine
use Rattle.engine.specs.Engine.{Ops, frame_of, grow}
use Rattle.plan.specs.Plan.{Plan, named, meets, lift, turn}
use Rattle.engine.specs.MaskOps.{mask_ops}
use Rattle.engine.specs.Quick.{Frame, sure_at, possible_at, Rise, raised, rise_if, rise_at, rise, refreshed, refresh, fresh, frames_after}
use Rattle.engine.specs.Quick.Of.{frame_shown}
use Rattle.engine.proofs.Quick.Kept.{Gathered, g_nil, g_cons, Turned, t_nil, t_cons}

-- a rise that has stopped goes on as one without news

unfoldable pub even : Bool → Plan → Frame → ℕ → Rise → Rise
even true P f new r = record { kept = f ∷ r.kept; risen = r.risen; carry = 0 }
even false P f new r =
    record { kept = []; risen = raised P f new ∷ (r.kept ++ r.risen); carry = lift P (meets P f.pass new) new }

stopped_at_lem :
    (P : Plan) (f : Frame) (kept risen : List Frame) (carry : ℕ) →
    ((rise_at P f kept risen carry).kept ≡ []) ⊎ ((rise_at P f kept risen carry).carry ≡ 0)
unfolding rise_at rise_if
stopped_at_lem P f (k ∷ kept) risen carry = inr refl
stopped_at_lem P f [] risen carry = go (eqb (join f.below carry) f.below)
  where
    go : (b : Bool) → ((rise_if b P f (join f.below carry) risen).kept ≡ []) ⊎ ((rise_if b P f (join f.below carry) risen).carry ≡ 0)
    go true = inr refl
    go false = inl refl

rise_stopped : (P : Plan) (a : ℕ) (fs : List Frame) → ((rise P a fs).kept ≡ []) ⊎ ((rise P a fs).carry ≡ 0)
unfolding rise
rise_stopped P a [] = inl refl
rise_stopped P a (f ∷ fs) = stopped_at_lem P f (rise P a fs).kept (rise P a fs).risen (rise P a fs).carry

even_at :
    (P : Plan) (f : Frame) (kept risen : List Frame) (carry : ℕ) → (kept ≡ []) ⊎ (carry ≡ 0) →
    rise_at P f kept risen carry
    ≡ even (eqb (join f.below carry) f.below) P f (join f.below carry) (record { kept = kept; risen = risen; carry = carry })
unfolding rise_at rise_if even
even_at P f [] risen carry s = go (eqb (join f.below carry) f.below)
  where
    go :
        (b : Bool) →
        rise_if b P f (join f.below carry) risen ≡ even b P f (join f.below carry) (record { kept = []; risen = risen; carry = carry })
    go true = refl
    go false = refl
even_at P f (k ∷ kept) risen carry (inl e) = absurd (cons-ne-nil k kept e)
even_at P f (k ∷ kept) risen carry (inr z) =
    sym (ap (λ b. even b P f (join f.below carry) (record { kept = k ∷ kept; risen = risen; carry = carry }))
    (eq-eqb (join f.below carry) f.below (ap (join f.below) z ∙ or_zero_r f.below)))

pub rise_even :
    (P : Plan) (a : ℕ) (f : Frame) (fs : List Frame) →
    rise P a (f ∷ fs)
    ≡ even (eqb (join f.below (rise P a fs).carry) f.below) P f (join f.below (rise P a fs).carry) (rise P a fs)
unfolding rise
rise_even P a f fs = even_at P f (rise P a fs).kept (rise P a fs).risen (rise P a fs).carry (rise_stopped P a fs)

-- where none has risen all stay

quiet_if :
    (b : Bool) (P : Plan) (f : Frame) (new : ℕ) (r : Rise) (fs : List Frame) → (r.risen ≡ [] → r.kept ≡ fs) →
    (even b P f new r).risen ≡ [] →
    (even b P f new r).kept ≡ f ∷ fs
unfolding even
quiet_if true P f new r fs ih e = ap (◌∷◌ f) (ih e)
quiet_if false P f new r fs ih e = absurd (cons-ne-nil _ _ e)

pub rise_quiet : (P : Plan) (a : ℕ) (fs : List Frame) → (rise P a fs).risen ≡ [] → (rise P a fs).kept ≡ fs
rise_quiet P a [] e = unfold rise in refl
rise_quiet P a (f ∷ fs) e =
    ap (λ r. r.kept) (rise_even P a f fs)
    ∙ quiet_if _ P f _ (rise P a fs) fs (rise_quiet P a fs) (sym (ap (λ r. r.risen) (rise_even P a f fs)) ∙ e)

-- the frames after an open

module _ (P : Plan) (y : Node) (plain : meets P (named P y.name) 0 ≡ meet (named P y.name) P.plain) where
  abbrev O : Ops ℕ ℕ (ReadyOf ℕ) (NeedOf ℕ)
  O = mask_ops P

  abbrev F : Type 0
  F = Engine.Frame ℕ (ReadyOf ℕ)

  abbrev shown : List F → List Frame
  shown fs = map (frame_shown P) fs

  -- the predicate steps that the new element meets
  abbrev anew : ℕ
  anew = without (meet (named P y.name) P.plain) P.main

  abbrev risen : List F → Rise
  risen fs = rise P anew (shown fs)

  abbrev lifted : F → ℕ → ℕ
  lifted f K = O.lift (O.meets f.node K) K

  -- whether a frame has news
  abbrev news : F → List F → ℕ
  news f fs = join f.below (risen fs).carry

  abbrev stops : F → List F → Bool
  stops f fs = eqb (news f fs) f.below

  -- what becomes of the rise r at the frame f, which stays if b
  abbrev after : Bool → F → Rise → Rise
  after b f r = even b P (frame_shown P f) (join f.below r.carry) r

  risen_even : (f : F) (fs : List F) → risen (f ∷ fs) ≡ after (stops f fs) f (risen fs)
  unfolding rise
  risen_even f fs = rise_even P _ (frame_shown P f) (shown fs)

  first_carry : anew ≡ O.lift (O.meets y 0) 0
  unfolding lift
  first_carry = ap (λ m. without m P.main) (sym plain) ∙ sym (or_zero_r _) ∙ ap (join (without (O.meets y 0) P.main)) (sym (and_zero_l P.deep))

  carry_step :
      (b : Bool) (K : ℕ) (f : F) (r : Rise) (all : ℕ) → (b ≡ true → join f.below r.carry ≡ f.below) →
      O.join K (lifted f f.below) ≡ K → join f.below r.carry ≡ join f.below all →
      join K (after b f r).carry ≡ join K (lifted f (join f.below all))
  unfolding even
  carry_step true K f r all s k e = or_zero_r K ∙ sym k ∙ ap (λ x. join K (lifted f x)) (sym (s refl) ∙ e)
  carry_step false K f r all s k e = ap (λ x. join K (lifted f x)) e

  pub rise_carry : {K : ℕ} {fs : List F} → Gathered O K fs → join K (risen fs).carry ≡ join K (Engine.rise O y fs)
  unfolding rise Engine.rise
  rise_carry {K} g_nil = ap (join K) first_carry
  rise_carry (g_cons {K} {f} {fs} k t) =
      ap (λ r. join K r.carry) (risen_even f fs)
      ∙ carry_step (stops f fs) K f (risen fs) (Engine.rise O y fs) (eqb-true (news f fs) f.below) k (rise_carry t)

  -- the frames that have risen, and the new one
  abbrev newest : List F → ReadyOf ℕ → Frame
  newest fs rp = fresh P y.name (get_or (rp.steps ∷ map (λ f. f.possible) (shown fs)) (length (shown fs)) 0)

  abbrev whole : Rise → Frame → List Frame
  whole r new = r.kept ++ (r.risen ++ (new ∷ []))

  abbrev put : F → ℕ → ReadyOf ℕ → Frame
  put f K s = frame_shown P (frame_of O f.node K s f.possible)

  put_step :
      (b : Bool) (f : F) (r : Rise) (s : ReadyOf ℕ) (K : ℕ) (new : Frame) → (b ≡ true → join f.below r.carry ≡ f.below) →
      join f.below r.carry ≡ K →
      refresh P s.steps (whole (after b f r) new) ≡ put f K s ∷ refresh P (O.turn (O.meets f.node K) s).steps (whole r new)
  unfolding even refresh refreshed raised
  put_step true f r s K new stop e =
      ap (λ x. put f x s ∷ refresh P (O.turn (O.meets f.node x) s).steps (whole r new)) (sym (stop refl) ∙ e)
  put_step false f r s K new stop e =
      ap (λ x. put f x s ∷ refresh P (O.turn (O.meets f.node x) s).steps ((r.kept ++ r.risen) ++ (new ∷ []))) e
      ∙ ap (λ x. put f K s ∷ refresh P (O.turn (O.meets f.node K) s).steps x) (append_assoc r.kept r.risen (new ∷ []))

  newest_shown :
      (s rp : ReadyOf ℕ) → refresh P s.steps (newest [] rp ∷ []) ≡ frame_shown P (frame_of O y 0 s (O.turn (O.named y) rp)) ∷ []
  unfolding refresh refreshed fresh
  newest_shown s rp =
      ap (λ m. record { name = y.name; pass = p; below = 0; met = m; sure = turn P m s.steps; possible = turn P p rp.steps } ∷ []) (sym plain)
    where
      p : ℕ
      p = named P y.name

  pub refresh_all :
      {K : ℕ} {fs : List F} (s rp : ReadyOf ℕ) → Gathered O K fs →
      refresh P s.steps (whole (risen fs) (newest fs rp)) ≡ shown (grow O y s rp fs)
  unfolding grow rise
  refresh_all s rp g_nil = newest_shown s rp
  refresh_all s rp (g_cons {K} {f} {fs} k t) =
      ap (λ r. refresh P s.steps (whole r (newest fs f.possible))) (risen_even f fs)
      ∙ put_step (stops f fs) f (risen fs) s (O.join f.below (Engine.rise O y fs)) (newest fs f.possible)
      (eqb-true (news f fs) f.below) (rise_carry t)
      ∙ ap (◌∷◌ (put f (O.join f.below (Engine.rise O y fs)) s))
      (refresh_all (O.turn (O.meets f.node (O.join f.below (Engine.rise O y fs))) s) f.possible t)

  -- from the highest change on
  abbrev from_top : ℕ → Rise → Frame → List Frame
  from_top s r new = r.kept ++ refresh P (get_or (s ∷ map (λ f. f.sure) r.kept) (length r.kept) 0) (r.risen ++ (new ∷ []))

  top_step :
      (b : Bool) (f : F) (r : Rise) (s : ℕ) (new : Frame) (Z : List Frame) →
      (b ≡ true → frame_shown P f ∷ from_top f.sure.steps r new ≡ Z) →
      refresh P s (whole (after b f r) new) ≡ Z → from_top s (after b f r) new ≡ Z
  unfolding even
  top_step true f r s new Z stop go = stop refl
  top_step false f r s new Z stop go = go

  same_frame :
      (f : F) (rs : ReadyOf ℕ) (K : ℕ) (fs : List F) → f.below ≡ K → f.sure ≡ O.turn (O.meets f.node f.below) rs →
      frame_shown P f ∷ shown (grow O y f.sure f.possible fs) ≡ put f K rs ∷ shown (grow O y (O.turn (O.meets f.node K) rs) f.possible fs)
  same_frame f rs K fs e k =
      ap (λ x. frame_shown P (record { node = f.node; below = f.below; sure = x; possible = f.possible }) ∷ shown (grow O y x f.possible fs)) k
      ∙ ap (λ x. put f x rs ∷ shown (grow O y (O.turn (O.meets f.node x) rs) f.possible fs)) e

  top_all :
      {K : ℕ} {rs : ReadyOf ℕ} {fs : List F} (rp : ReadyOf ℕ) → Gathered O K fs → Turned O rs fs →
      from_top rs.steps (risen fs) (newest fs rp) ≡ shown (grow O y rs rp fs)
  unfolding grow rise
  top_all {K} {rs} rp g_nil t_nil = newest_shown rs rp
  top_all {K} {rs} rp (g_cons {f} {fs} k t) (t_cons e u) =
      ap (λ r. from_top rs.steps r (newest fs f.possible)) (risen_even f fs)
      ∙ top_step (stops f fs) f (risen fs) rs.steps (newest fs f.possible) _
      (λ z. ap (◌∷◌ (frame_shown P f)) (top_all f.possible t u) ∙ same_frame f rs _ fs (sym (eqb-true (news f fs) f.below z) ∙ rise_carry t) e)
      (sym (ap (λ r. refresh P rs.steps (whole r (newest fs f.possible))) (risen_even f fs)) ∙ refresh_all rs rp (g_cons {K = K} {f = f} k t))

  pub open_frames :
      {K : ℕ} {fs : List F} → Gathered O K fs → Turned O O.start fs →
      frames_after P y.name (shown fs) (risen fs) ≡ shown (grow O y O.start O.start fs)
  unfolding frames_after sure_at possible_at
  open_frames t u = top_all O.start t u
