-- The quick engine's lists from their end, as a loop walks them; and how long they are. Over any plan and any lists.
--
--   rise_snoc_stop     where there is no news in the innermost frame all stay
--   rise_snoc_on       else it has risen, and what it comes to rises through the frames around it
--   rise_length        each frame stays or has risen
--   length_refresh     a refresh keeps each frame;  frames_after_length: an open adds one
--   cut_snoc_on        a last node at the level is in the end that is cut off, as is what a cut of the nodes before it cuts off
--   cut_snoc_stop      if the last node is not at the level nothing is cut off
--   counted_le, went_le      no more go than there are;  stay_le: nor do more stay
--
-- Assumes nothing. NOT here: that what is cut off and what stands before it are the list (Lists, cut-append).
use Prim.Native.Nat.{ℕ, suc, ◌+◌, ◌≤◌}
use Rattle.std.proofs.Common.{le_refl, ◌∙◌, subst, eq-eqb, ne_eqb}
use native.Mathlib.Omega.{arith}
use Rattle.std.specs.Prelude.{◌≡◌, Bool, eqb, length}
use Rattle.std.proofs.Math.Path.{refl, ap}
use Rattle.std.proofs.Math.Bool.{true, false}
use mathlib.Core.List.{List, [], ◌∷◌, ◌++◌, map}
use Rattle.std.proofs.Math.ListN.{length-append}
use Rattle.std.proofs.lemmas.List.{length-map}
use Rattle.sets.specs.Set.{join, overlaps}
use Rattle.plan.specs.Plan.{Plan, meets, lift, turn}
use Rattle.engine.specs.Engine.{keep}
use Rattle.engine.specs.Quick.{Frame, Waiting, certain, counted_if, counted, Rise, raised, rise_if, rise_at, rise, refresh, fresh}
use Rattle.engine.specs.Quick.{frames_after, sure_at, possible_at, went_if, cut_if, cut, moved, stay}
use Rattle.engine.proofs.Quick.Lists.{keep_le}

-- a rise

module _ (P : Plan) where
  all_stay :
      (g : Frame) (fs : List Frame) (f : Frame) →
      rise_at P g (fs ++ (f ∷ [])) [] 0 ≡ record { kept = g ∷ (fs ++ (f ∷ [])); risen = []; carry = 0 }
  unfolding rise_at
  all_stay g [] f = refl
  all_stay g (h ∷ fs) f = refl

  pub rise_snoc_stop :
      (a : ℕ) (fs : List Frame) (f : Frame) → join f.below a ≡ f.below →
      rise P a (fs ++ (f ∷ [])) ≡ record { kept = fs ++ (f ∷ []); risen = []; carry = 0 }
  unfolding rise rise_at rise_if
  rise_snoc_stop a [] f e = ap (λ b. rise_if b P f (join f.below a) []) (eq-eqb (join f.below a) f.below e)
  rise_snoc_stop a (g ∷ fs) f e = ap (λ r. rise_at P g r.kept r.risen r.carry) (rise_snoc_stop a fs f e) ∙ all_stay g fs f

  -- frames that have risen inside those of r
  abbrev onto : Rise → List Frame → Rise
  onto r xs = record { kept = r.kept; risen = r.risen ++ xs; carry = r.carry }

  on_if : (b : Bool) (f : Frame) (new : ℕ) (risen xs : List Frame) → rise_if b P f new (risen ++ xs) ≡ onto (rise_if b P f new risen) xs
  unfolding rise_if
  on_if true f new risen xs = refl
  on_if false f new risen xs = refl

  on_at : (f : Frame) (kept risen xs : List Frame) (carry : ℕ) → rise_at P f kept (risen ++ xs) carry ≡ onto (rise_at P f kept risen carry) xs
  unfolding rise_at
  on_at f [] risen xs carry = on_if _ f _ risen xs
  on_at f (k ∷ kept) risen xs carry = refl

  pub rise_snoc_on :
      (a : ℕ) (fs : List Frame) (f : Frame) → (join f.below a ≡ f.below → ⊥) →
      (let new : ℕ = join f.below a in
      let r : Rise = rise P (lift P (meets P f.pass new) new) fs in
      rise P a (fs ++ (f ∷ [])) ≡ record { kept = r.kept; risen = r.risen ++ (raised P f new ∷ []); carry = r.carry })
  unfolding rise rise_at rise_if
  rise_snoc_on a [] f ne = ap (λ b. rise_if b P f (join f.below a) []) (ne_eqb (join f.below a) f.below ne)
  rise_snoc_on a (g ∷ fs) f ne =
      let new : ℕ = join f.below a in
      let r : Rise = rise P (lift P (meets P f.pass new) new) fs in
      ap (λ r. rise_at P g r.kept r.risen r.carry) (rise_snoc_on a fs f ne)
      ∙ on_at g r.kept r.risen (raised P f new ∷ []) r.carry

  -- how many

  length_if :
      (b : Bool) (f : Frame) (new : ℕ) (risen : List Frame) →
      length ((rise_if b P f new risen).kept ++ (rise_if b P f new risen).risen) ≡ suc (length risen)
  unfolding rise_if
  length_if true f new risen = refl
  length_if false f new risen = refl

  length_at :
      (f : Frame) (kept risen : List Frame) (carry : ℕ) →
      length ((rise_at P f kept risen carry).kept ++ (rise_at P f kept risen carry).risen) ≡ suc (length (kept ++ risen))
  unfolding rise_at
  length_at f [] risen carry = length_if _ f _ risen
  length_at f (k ∷ kept) risen carry = refl

  pub rise_length : (a : ℕ) (fs : List Frame) → length ((rise P a fs).kept ++ (rise P a fs).risen) ≡ length fs
  unfolding rise
  rise_length a [] = refl
  rise_length a (f ∷ fs) = length_at f (rise P a fs).kept (rise P a fs).risen (rise P a fs).carry ∙ ap suc (rise_length a fs)

  pub length_refresh : (s : ℕ) (fs : List Frame) → length (refresh P s fs) ≡ length fs
  unfolding refresh
  length_refresh s [] = refl
  length_refresh s (f ∷ fs) = ap suc (length_refresh (turn P f.met s) fs)

  pub frames_after_length : (n a : ℕ) (fs : List Frame) → length (frames_after P n fs (rise P a fs)) ≡ length fs + 1
  unfolding frames_after
  frames_after_length n a fs =
      let r : Rise = rise P a fs in
      let new : Frame = fresh P n (possible_at P fs (length fs)) in
      let s : ℕ = sure_at P r.kept (length r.kept) in
      omega (
        arith,
        rise_length a fs,
        length-append r.kept r.risen,
        length-append r.kept (refresh P s (r.risen ++ (new ∷ []))),
        length_refresh s (r.risen ++ (new ∷ [])),
        length-append r.risen (new ∷ []),
      )

-- a cut

module _ {A : Type 0} (level : A → ℕ) (l : ℕ) where
  cut_on_if :
      (b : Bool) (y : A) (before from : List A) (x : A) →
      cut_if b y before (from ++ (x ∷ [])) ≡ record { before = (cut_if b y before from).before; from = (cut_if b y before from).from ++ (x ∷ []) }
  unfolding cut_if
  cut_on_if true y [] from x = refl
  cut_on_if true y (z ∷ before) from x = refl
  cut_on_if false y before from x = refl

  pub cut_snoc_on :
      (xs : List A) (x : A) → level x ≡ l →
      cut level l (xs ++ (x ∷ [])) ≡ record { before = (cut level l xs).before; from = (cut level l xs).from ++ (x ∷ []) }
  unfolding cut cut_if
  cut_snoc_on [] x e = ap (λ b. cut_if b x [] []) (eq-eqb (level x) l e)
  cut_snoc_on (y ∷ xs) x e =
      ap (λ c. cut_if (eqb (level y) l) y c.before c.from) (cut_snoc_on xs x e)
      ∙ cut_on_if (eqb (level y) l) y (cut level l xs).before (cut level l xs).from x

  none_cut : (b : Bool) (y : A) (xs : List A) (x : A) → cut_if b y (xs ++ (x ∷ [])) [] ≡ record { before = y ∷ (xs ++ (x ∷ [])); from = [] }
  unfolding cut_if
  none_cut true y [] x = refl
  none_cut true y (z ∷ xs) x = refl
  none_cut false y xs x = refl

  pub cut_snoc_stop : (xs : List A) (x : A) → (level x ≡ l → ⊥) → cut level l (xs ++ (x ∷ [])) ≡ record { before = xs ++ (x ∷ []); from = [] }
  unfolding cut cut_if
  cut_snoc_stop [] x ne = ap (λ b. cut_if b x [] []) (ne_eqb (level x) l ne)
  cut_snoc_stop (y ∷ xs) x ne =
      ap (λ c. cut_if (eqb (level y) l) y c.before c.from) (cut_snoc_stop xs x ne) ∙ none_cut (eqb (level y) l) y xs x

-- who goes and who stays

counted_if_le : (b : Bool) (k n : ℕ) → k ≤ n → counted_if b k ≤ suc n
unfolding counted_if
counted_if_le true k n h = omega arith
counted_if_le false k n h = omega arith

pub counted_le : {A : Type 0} (c : A → Bool) (ws : List A) → counted c ws ≤ length ws
unfolding counted
counted_le c [] = le_refl 0
counted_le c (w ∷ ws) = counted_if_le (c w) (counted c ws) (length ws) (counted_le c ws)

pub went_le : (b : Bool) (P : Plan) (fs : List Frame) (ws : List Waiting) → went_if b P fs ws ≤ length ws
unfolding went_if
went_le true P fs ws = counted_le (certain P fs) ws
went_le false P fs ws = omega arith

pub stay_le : (P : Plan) (M l possible : ℕ) (ws : List Waiting) → length (stay P M l possible ws) ≤ length ws
unfolding stay
stay_le P M l possible ws =
    subst (λ n. length (keep (λ w. overlaps w.need possible) (map (moved P M l) ws)) ≤ n) (length-map ws (moved P M l))
    (keep_le _ (map (moved P M l) ws))
