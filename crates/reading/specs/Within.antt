-- A byte of a class lies in one of its ranges: what arithmetic needs of a class.
--
--   Within c b               b is in one of the ranges of c
--   within_in, in_within     the same as being in c
--   part_of d c               each range of d is in one of c;  part_within: so each byte is
--   all_below n p             every number below n passes p, as a test;  all_below_lem: so each does
--
-- Assumes nothing.
use Rattle.std.specs.Prelude.{ℕ, zero, suc, ◌≤◌, ◌<◌, ◌≡◌, Bool, true, false, ◌&&◌, ◌||◌, [], ◌∷◌, T, leb}
use Rattle.std.proofs.Common.{arith, sym, subst, ⊎_elim, leb→le, le→leb}
use Rattle.std.proofs.Math.Decide.{ℕ_discrete}
use Rattle.xml.specs.Class.{Range, Class, in_range, in_class, In}
use Rattle.xml.proofs.Class.Laws.{and_l, and_r, and_i, or_case, or_l, or_r}

pub data Within : Class → ℕ → Type 0 where
  here : {r : Range} {c : Class} {b : ℕ} → r.lo ≤ b → b ≤ r.hi → Within (r ∷ c) b
  there : {r : Range} {c : Class} {b : ℕ} → Within c b → Within (r ∷ c) b

within : {c : Class} {b : ℕ} → Within c b → T (in_class c b)
unfolding in_class
within (here {r = r} {c = c} {b = b} l h) = or_l (in_range r b) (in_class c b) (and_i (leb r.lo b) _ (le→leb r.lo b l) (le→leb b r.hi h))
within (there {r = r} {c = c} {b = b} h) = or_r (in_range r b) (in_class c b) (within h)

pub within_in : {c : Class} {b : ℕ} → Within c b → In c b
within_in h = record { holds = within h }

ranged : (c : Class) (b : ℕ) → T (in_class c b) → Within c b
unfolding in_class
ranged (r ∷ c) b t =
    ⊎_elim
    (λ h. here (leb→le r.lo b (and_l (leb r.lo b) _ h)) (leb→le b r.hi (and_r (leb r.lo b) _ h)))
    (λ h. there (ranged c b h))
    (or_case (in_range r b) (in_class c b) t)
ranged [] b t = elim t [ ]

pub in_within : {c : Class} {b : ℕ} → In c b → Within c b
in_within {c} {b} h = ranged c b h.holds

-- some range of the class holds the whole range
unfoldable pub holds : Class → Range → Bool
holds [] r = false
holds (q ∷ c) r = (leb q.lo r.lo && leb r.hi q.hi) || holds c r

unfoldable pub part_of : Class → Class → Bool
part_of [] c = true
part_of (r ∷ d) c = holds c r && part_of d c

holds_within : (c : Class) (r : Range) (b : ℕ) → T (holds c r) → r.lo ≤ b → b ≤ r.hi → Within c b
unfolding holds
holds_within (q ∷ c) r b t l h =
    ⊎_elim
    (λ u.
    let x : q.lo ≤ r.lo = leb→le _ _ (and_l (leb q.lo r.lo) _ u) in
    let y : r.hi ≤ q.hi = leb→le _ _ (and_r (leb q.lo r.lo) _ u) in
    here (omega arith) (omega arith))
    (λ u. there (holds_within c r b u l h))
    (or_case (leb q.lo r.lo && leb r.hi q.hi) (holds c r) t)
holds_within [] r b t l h = elim t [ ]

pub part_within : (c d : Class) (b : ℕ) → T (part_of d c) → Within d b → Within c b
unfolding part_of
part_within c (r ∷ d) b t (here l h) = holds_within c r b (and_l (holds c r) _ t) l h
part_within c (r ∷ d) b t (there h) = part_within c d b (and_r (holds c r) _ t) h
part_within c [] b t x'' = elim x'' [ ]

unfoldable pub all_below : ℕ → (ℕ → Bool) → Bool
all_below zero p = true
all_below (suc n) p = p n && all_below n p

pub all_below_lem : (n : ℕ) (p : ℕ → Bool) → T (all_below n p) → (b : ℕ) → b < n → T (p b)
unfolding all_below
all_below_lem zero p t b h = absurd (omega arith)
all_below_lem (suc n) p t b h = go (ℕ_discrete b n) (λ l. all_below_lem n p (and_r (p n) _ t) b l)
  where
    go : Dec (b ≡ n) → (b < n → T (p b)) → T (p b)
    go (yes e) f = subst (λ z. T (p z)) (sym e) (and_l (p n) _ t)
    go (no e) f = f (omega arith)
