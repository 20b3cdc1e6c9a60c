-- The order of the refusals and the stop, in document 01's words and those of requests C-16 and C-12.
--
--   rank_other             a number other than 15 and 11 has its own rank
--   lower_first            "The lowest number that applies is given": of two others the lower comes first
--   one_first              none comes before 1
--   after_one              15 "comes directly after 1"
--   before_others          "and before all others"
--   stopped_after          11 comes after 15
--   stopped_before         and before all others
--   rank_one               no two refusals have one rank
--   stops_exactly          2 to 7 stop a session, and no other number does
--
-- Assumes nothing.
use Rattle.std.specs.Prelude.{ℕ, ◌*◌, ◌≤◌, ◌<◌, ◌↔◌, ◌≡◌, refl, Bool, true, false, T, eqb, leb}
use Rattle.std.proofs.Common.{arith, sym, ap₂, ◌∙◌, leb→le, le→leb, eqb-true, ne_eqb}
use Rattle.meaning.specs.Logic.{and_i, and_l, and_r}
use Rattle.meaning.specs.Refusals.{rank_if, rank, stops}

pub rank_other : (r : ℕ) → (r ≡ 15 → ⊥) → (r ≡ 11 → ⊥) → rank r ≡ 3 * r
unfolding rank rank_if
rank_other r f g = ap₂ (λ b c. rank_if b c r) (ne_eqb r 15 f) (ne_eqb r 11 g)

pub lower_first : (r s : ℕ) → (r ≡ 15 → ⊥) → (r ≡ 11 → ⊥) → (s ≡ 15 → ⊥) → (s ≡ 11 → ⊥) → r < s → rank r < rank s
lower_first r s f f' g g' h = omega (arith, rank_other r f f', rank_other s g g')

pub after_one : rank 1 < rank 15
unfolding rank rank_if
after_one = omega arith

pub stopped_after : rank 15 < rank 11
unfolding rank rank_if
stopped_after = omega arith

pub one_first : (r : ℕ) → 0 < r → rank 1 ≤ rank r
unfolding rank rank_if
one_first r h = by (eqb r 15) (eqb r 11)
  where
    by : (b c : Bool) → 3 ≤ rank_if b c r
    by true c = omega arith
    by false true = omega arith
    by false false = omega arith

pub before_others : (r : ℕ) → 1 < r → rank 15 ≤ rank r
unfolding rank rank_if
before_others r h = by (eqb r 15) (eqb r 11)
  where
    by : (b c : Bool) → 4 ≤ rank_if b c r
    by true c = omega arith
    by false true = omega arith
    by false false = omega arith

pub stopped_before : (r : ℕ) → 1 < r → (r ≡ 15 → ⊥) → rank 11 ≤ rank r
unfolding rank rank_if
stopped_before r h f = by (eqb r 15) (eqb r 11) (ne_eqb r 15 f)
  where
    by : (b c : Bool) → b ≡ false → 5 ≤ rank_if b c r
    by true c e = let z : ◌≡◌ {A = ℕ} 0 1 = cc in absurd (omega arith)
    by false true e = omega arith
    by false false e = omega arith

rank_by :
    (r s : ℕ) (b c b' c' : Bool) → eqb r 15 ≡ b → eqb r 11 ≡ c → eqb s 15 ≡ b' → eqb s 11 ≡ c' → rank_if b c r ≡ rank_if b' c' s → r ≡ s
unfolding rank_if
rank_by r s true c true c' x y z w e = eqb-true r 15 x ∙ sym (eqb-true s 15 z)
rank_by r s true c false true x y z w e = absurd (omega arith)
rank_by r s true c false false x y z w e = absurd (omega arith)
rank_by r s false true true c' x y z w e = absurd (omega arith)
rank_by r s false true false true x y z w e = eqb-true r 11 y ∙ sym (eqb-true s 11 w)
rank_by r s false true false false x y z w e = absurd (omega arith)
rank_by r s false false true c' x y z w e = absurd (omega arith)
rank_by r s false false false true x y z w e = absurd (omega arith)
rank_by r s false false false false x y z w e = omega arith

pub rank_one : (r s : ℕ) → rank r ≡ rank s → r ≡ s
unfolding rank
rank_one r s e = rank_by r s (eqb r 15) (eqb r 11) (eqb s 15) (eqb s 11) refl refl refl refl e

pub stops_exactly : (r : ℕ) → T (stops r) ↔ ((2 ≤ r) × (r ≤ 7))
unfolding stops
stops_exactly r = (
  λ t. (leb→le 2 r (and_l (leb 2 r) _ t), leb→le r 7 (and_r (leb 2 r) _ t)),
  λ h. and_i (leb 2 r) _ (le→leb 2 r h.0) (le→leb r 7 h.1),
)
