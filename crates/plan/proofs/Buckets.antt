-- The loop that files the steps into buckets, from the last step on.
--
--   known T l           the buckets where the steps from place l on are filed, for the tests T
--   known_none, known_step, known_all      before the last step; one step more; after the first
--
-- Assumes nothing.
use Prim.Native.Nat.{ℕ, suc, ◌%◌, ◌≤◌, ◌<◌}
use native.Mathlib.Nat.{mod-lt}
use native.Mathlib.Omega.{arith}
use mathlib.Core.Path.{◌≡◌, refl, sym, ap, ap₂, ◌∙◌}
use mathlib.Core.Bool.{Bool, true, false, not, ◌&&◌, cond}
use mathlib.Core.List.{List, ◌∷◌}
use lib.Dec.{eqb}
use lib.ListN.{length, get_or, set, take, drop, length-set, drop_of_length-le}
use lib.Seq.{get_or-set_same, get_or-set_other, get_or-take, drop-cons, length-take-le}
use borrow.Author.Tests.{eqb-true, eqb-false}
use Rattle.meaning.specs.Name.{star}
use Rattle.sets.specs.Table.{table_of, length_table_of, get_d_table_of, is_table_of}
use Rattle.plan.specs.Asked.{added_to, bucket_from, bucket, filed}
use Rattle.plan.specs.Planned.{bucket_count, several_steps, zeros}

-- the buckets of the tests ns of the steps from t on
abbrev from : ℕ → ℕ → ℕ → List ℕ → List ℕ
from m w t ns = table_of w (λ s. bucket_from m w s t ns)

module _ (m w t n : ℕ) (ns : List ℕ) (some : 0 < w) where
  abbrev later : ℕ → ℕ
  later s = bucket_from m w s (suc t) ns

  -- what a bucket says with step t, by whether it is the name's
  says : (s : ℕ) (a b : Bool) → eqb n star ≡ a → eqb (n % w) s ≡ b → bucket_from m w s t (n ∷ ns) ≡ cond (not a && b) (added_to m t (later s)) (later s)
  unfolding bucket_from
  says s a b p q = ap₂ (λ x y. cond (not x && y) (added_to m t (later s)) (later s)) p q

  filed_from : filed m w t n (from m w (suc t) ns) ≡ from m w t (n ∷ ns)
  unfolding filed
  filed_from = go (eqb n star) refl
    where
      B : List ℕ
      B = from m w (suc t) ns

      at : n % w < w
      at = mod-lt n some

      go : (a : Bool) → eqb n star ≡ a → cond a B (set B (n % w) (added_to m t (get_or B (n % w) 0))) ≡ from m w t (n ∷ ns)
      go true p = is_table_of w _ B (length_table_of w _) (λ s l. get_d_table_of w later s l ∙ sym (says s true (eqb (n % w) s) p refl))
      go false p =
          is_table_of w _ _ (length-set B (n % w) _ ∙ length_table_of w _) (λ s l. each s l (eqb (n % w) s) refl)
        where
          each :
              (s : ℕ) → s < w → (b : Bool) → eqb (n % w) s ≡ b →
              get_or (set B (n % w) (added_to m t (get_or B (n % w) 0))) s 0 ≡ bucket_from m w s t (n ∷ ns)
          each s l true q =
              let e : n % w ≡ s = eqb-true (n % w) s q in
              ap (λ k. get_or (set B (n % w) (added_to m t (get_or B (n % w) 0))) k 0) (sym e)
              ∙ get_or-set_same B (n % w) _ 0 (omega (arith, length_table_of w later, at))
              ∙ ap (added_to m t) (get_d_table_of w later (n % w) at ∙ ap later e)
              ∙ sym (says s false true p q)
          each s l false q =
              get_or-set_other B (n % w) s _ 0 (λ e. eqb-false (n % w) s q (sym e))
              ∙ get_d_table_of w later s l ∙ sym (says s false false p q)

unfoldable pub known : List ℕ → ℕ → List ℕ
known T l = from several_steps bucket_count l (drop l T)

pub known_none : (T : List ℕ) (l : ℕ) → length T ≤ l → zeros bucket_count ≡ known T l
unfolding known bucket_from table_of
known_none T l h = rw (drop_of_length-le T h)

-- the tests are the first `size` of the names
pub known_step :
    (names : List ℕ) (size l k : ℕ) {B : List ℕ} → size ≤ length names → l ≡ suc k → l ≤ size → B ≡ known (take size names) l →
    filed several_steps bucket_count k (get_or names k 0) B ≡ known (take size names) k
unfolding known
known_step names size l k whole e h eb =
    let T : List ℕ = take size names in
    ap₂ (filed several_steps bucket_count k) (sym (get_or-take size names k 0 (omega arith))) (eb ∙ ap (λ i. from several_steps bucket_count i (drop i T)) e)
    ∙ filed_from several_steps bucket_count k (get_or T k 0) (drop (suc k) T) (omega arith)
    ∙ ap (from several_steps bucket_count k) (sym (drop-cons T k 0 (omega (arith, length-take-le size names whole))))

pub known_all : (T : List ℕ) (l : ℕ) {B : List ℕ} → l ≡ 0 → B ≡ known T l → B ≡ table_of bucket_count (bucket several_steps bucket_count T)
unfolding known
known_all T l e eb = eb ∙ ap (λ i. from several_steps bucket_count i (drop i T)) e
