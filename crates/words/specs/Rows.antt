-- Numbers as records of w numbers each.
--
--   rows n g            the list of g 0 to g (n - 1)
--   field w ws i f      number f of record i of ws
--   rows_length, rows_at, rows_same, rows_put      its length; what stands at a place; lists that agree; one place alone changes
--   is_rows             the list with these entries
--   field_put, field_other      field f of record i is written: it stands there, and every other field as before
--
-- Assumes nothing.
use Prim.Native.Nat.{ℕ, zero, suc, ◌+◌, ◌*◌, ◌<◌}
use Rattle.std.proofs.Common.{mul-suc, mul-zero, arith, sym, ◌∙◌, get_or-set_same, get_or-set_other, ext_get_or}
use Rattle.std.specs.Prelude.{◌≡◌, length, get_or, set}
use Rattle.std.proofs.Math.Path.{refl, ap, ap₂}
use mathlib.Core.List.{List, [], ◌∷◌}

unfoldable pub rows : {A : Type 0} → ℕ → (ℕ → A) → List A
rows zero g = []
rows (suc n) g = g zero ∷ rows n (λ i. g (suc i))

abbrev pub field : ℕ → List ℕ → ℕ → ℕ → ℕ
field w ws i f = get_or ws (w * i + f) 0

module _ {A : Type 0} where
  pub rows_length : (n : ℕ) (g : ℕ → A) → length (rows n g) ≡ n
  unfolding rows
  rows_length zero g = refl
  rows_length (suc n) g = ap suc (rows_length n (λ i. g (suc i)))

  pub rows_at : (n : ℕ) (g : ℕ → A) (d : A) (i : ℕ) → i < n → get_or (rows n g) i d ≡ g i
  unfolding rows
  rows_at zero g d i h = absurd (omega arith)
  rows_at (suc n) g d zero h = refl
  rows_at (suc n) g d (suc i) h = rows_at n (λ k. g (suc k)) d i (omega arith)

  pub rows_same : (n : ℕ) (g h : ℕ → A) → ((i : ℕ) → i < n → g i ≡ h i) → rows n g ≡ rows n h
  unfolding rows
  rows_same zero g h e = refl
  rows_same (suc n) g h e = ap₂ ◌∷◌ (e zero (omega arith)) (rows_same n (λ i. g (suc i)) (λ i. h (suc i)) (λ i l. e (suc i) (omega arith)))

  pub is_rows : (n : ℕ) (g : ℕ → A) (d : A) (xs : List A) → length xs ≡ n → ((i : ℕ) → i < n → get_or xs i d ≡ g i) → xs ≡ rows n g
  is_rows n g d xs e h =
      ext_get_or d xs (rows n g) (e ∙ sym (rows_length n g))
      (λ i l. let under : i < n = omega arith in h i under ∙ sym (rows_at n g d i under))

  pub rows_put :
      (n : ℕ) (g h : ℕ → A) (i : ℕ) (v : A) → h i ≡ v → ((k : ℕ) → (k ≡ i → ⊥) → h k ≡ g k) → rows n h ≡ set (rows n g) i v
  unfolding rows
  rows_put zero g h i v e o = refl
  rows_put (suc n) g h zero v e o = ap₂ ◌∷◌ e (rows_same n (λ k. h (suc k)) (λ k. g (suc k)) (λ k l. o (suc k) (λ z. absurd (omega arith))))
  rows_put (suc n) g h (suc i) v e o =
      ap₂ ◌∷◌ (o zero (λ z. absurd (omega arith)))
      (rows_put n (λ k. g (suc k)) (λ k. h (suc k)) i v e (λ k d. o (suc k) (λ z. d (omega arith))))

-- a place is in one record
one_record : (w i k f g : ℕ) → f < w → g < w → w * i + f ≡ w * k + g → i ≡ k
one_record w zero zero f g hf hg e = refl
one_record w zero (suc k) f g hf hg e = absurd (omega (arith, mul-suc w k, mul-zero w))
one_record w (suc i) zero f g hf hg e = absurd (omega (arith, mul-suc w i, mul-zero w))
one_record w (suc i) (suc k) f g hf hg e =
    ap suc (one_record w i k f g hf hg (omega (arith, mul-suc w i, mul-suc w k)))

module _ (w : ℕ) (ws : List ℕ) (i f v : ℕ) where
  pub field_put : w * i + f < length ws → field w (set ws (w * i + f) v) i f ≡ v
  field_put h = get_or-set_same ws (w * i + f) v 0 h

  pub field_other : (k g : ℕ) → f < w → g < w → (k ≡ i → g ≡ f → ⊥) → field w (set ws (w * i + f) v) k g ≡ field w ws k g
  field_other k g hf hg d = get_or-set_other ws (w * i + f) (w * k + g) v 0 (λ e. d (one_record w k i g f hg hf e) (same e))
    where
      same : w * k + g ≡ w * i + f → g ≡ f
      same e = let r : k ≡ i = one_record w k i g f hg hf e in omega (arith, ap (λ t. w * t) r)
