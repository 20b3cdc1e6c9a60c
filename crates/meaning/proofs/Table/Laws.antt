-- What the first line of a table is that applies, by a rank of its numbers.
--
--   in_order i rs       the numbers of rs stand in the order of their ranks, from rank i on
--   Outcome rs o       o is a number that applies and has the lowest rank of those that do, or none, and then none applies
--   first_outcome      of a table in order, `first` is its outcome
--   line_due, due_line      one line of a table: what it claims where it applies, and that it applies
--
-- Assumes nothing, of the rank neither.
use Prim.Native.Nat.{ℕ, suc, ◌≤◌}
use native.Mathlib.Omega.{arith}
use Rattle.std.specs.Prelude.{◌⊎◌, ◌≡◌, refl, Bool, ◌&&◌, leb}
use Rattle.std.proofs.Common.{inl, inr, sym, subst}
use Rattle.std.proofs.Math.Path.{ap}
use Rattle.std.proofs.Math.Bool.{true, false}
use mathlib.Core.List.Memᴰ
use mathlib.Core.List.{List, [], ◌∷◌, Memᴰ}
use Rattle.std.proofs.Math.Option.{Option, none, some}
use Rattle.std.proofs.Math.Dec.{T, leb→le}
use Rattle.meaning.specs.Logic.{is_true, and_l, and_r}
use Rattle.meaning.specs.Table.{Refusal, refusal, first_or, first}

module _ (rank : ℕ → ℕ) where
  unfoldable pub in_order : ℕ → List Refusal → Bool
  in_order i [] = true
  in_order i (r ∷ rs) = leb i (rank r.number) && in_order (suc (rank r.number)) rs

  order_from : (i s : ℕ) (rs : List Refusal) → T (in_order i rs) → Memᴰ (refusal s true) rs → i ≤ rank s
  unfolding in_order
  order_from i s [] t m = absurd (Memᴰ.not-nil m)
  order_from i s (r ∷ rs) t m = go (Memᴰ.cases_cons m) (order_from (suc (rank r.number)) s rs (and_r (leb i (rank r.number)) _ t))
    where
      from : i ≤ rank r.number
      from = leb→le i (rank r.number) (and_l (leb i (rank r.number)) _ t)

      go : (refusal s true ≡ r) ⊎ Memᴰ (refusal s true) rs → (Memᴰ (refusal s true) rs → suc (rank r.number) ≤ rank s) → i ≤ rank s
      go (inl e) f = let n : rank s ≡ rank r.number = ap (λ (z : Refusal). rank z.number) e in omega (arith, from)
      go (inr u) f = omega (arith, from, f u)

  pub data Outcome (rs : List Refusal) : Option ℕ → Type 0 where
    first_is : {r : ℕ} → Memᴰ (refusal r true) rs → ((s : ℕ) → Memᴰ (refusal s true) rs → rank r ≤ rank s) → Outcome rs (some r)
    none_is : ((s : ℕ) → Memᴰ (refusal s true) rs → ⊥) → Outcome rs none

  outcome_past : {rs : List Refusal} {o : Option ℕ} (n : ℕ) → Outcome rs o → Outcome (refusal n false ∷ rs) o
  outcome_past {rs} n (first_is {r} m f) = first_is (Memᴰ.tail m) (λ s u. go s (Memᴰ.cases_cons u))
    where
      go : (s : ℕ) → (refusal s true ≡ refusal n false) ⊎ Memᴰ (refusal s true) rs → rank r ≤ rank s
      go s (inl e) = let z : true ≡ false = ap (λ (z : Refusal). z.applies) e in let w : ◌≡◌ {A = ℕ} 0 1 = cc in absurd (omega arith)
      go s (inr u) = f s u
  outcome_past {rs} n (none_is f) = none_is (λ s u. go s (Memᴰ.cases_cons u))
    where
      go : (s : ℕ) → (refusal s true ≡ refusal n false) ⊎ Memᴰ (refusal s true) rs → ⊥
      go s (inl e) = let z : true ≡ false = ap (λ (z : Refusal). z.applies) e in let w : ◌≡◌ {A = ℕ} 0 1 = cc in omega arith
      go s (inr u) = f s u

  pub first_outcome : (i : ℕ) (rs : List Refusal) → T (in_order i rs) → Outcome rs (first rs)
  unfolding first first_or in_order
  first_outcome i [] t = none_is (λ s m. Memᴰ.not-nil m)
  first_outcome i (r ∷ rs) t =
      let x = and_r (leb i (rank r.number)) _ t in
      go r.number r.applies x (first_outcome (suc (rank r.number)) rs x)
    where
      go : (n : ℕ) (b : Bool) → T (in_order (suc (rank n)) rs) → Outcome rs (first rs) → Outcome (refusal n b ∷ rs) (first_or b n (first rs))
      go n false y o = outcome_past n o
      go n true y o = first_is (Memᴰ.head refl) (λ s m. least s (Memᴰ.cases_cons m))
        where
          least : (s : ℕ) → (refusal s true ≡ refusal n true) ⊎ Memᴰ (refusal s true) rs → rank n ≤ rank s
          least s (inl e) = let k : rank s ≡ rank n = ap (λ (z : Refusal). rank z.number) e in omega arith
          least s (inr u) = let l : suc (rank n) ≤ rank s = order_from (suc (rank n)) s rs y u in omega arith

pub line_due :
    (P : ℕ → Type 0) (n : ℕ) (b : Bool) {rs : List Refusal} {r : ℕ} → (T b → P n) → (Memᴰ (refusal r true) rs → P r) →
    Memᴰ (refusal r true) (refusal n b ∷ rs) → P r
line_due P n b {rs} {r} f g m = go (Memᴰ.cases_cons m)
  where
    go : (refusal r true ≡ refusal n b) ⊎ Memᴰ (refusal r true) rs → P r
    go (inl e) =
        let k : r ≡ n = ap (λ (z : Refusal). z.number) e in
        let t : true ≡ b = ap (λ (z : Refusal). z.applies) e in
        subst P (sym k) (f (subst T t tt))
    go (inr u) = g u

pub due_line : (n : ℕ) (b : Bool) {rs : List Refusal} → T b → Memᴰ (refusal n true) (refusal n b ∷ rs)
due_line n b t = Memᴰ.head (ap (refusal n) (sym (is_true b t)))
