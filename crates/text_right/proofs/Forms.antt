-- Characters of several bytes: what is left of the rows of Unicode's table is what the forms say.
--
--   same_class, same_row, same_rows      two classes, rows, tables of rows are the same, as a test;  same_rows_lem: they are
--   up_to k f           the test f passes below k;  below: so at a number below k
--   next_rows x         what is left after a byte, by what the code says is left
--   lead_test, follow_test      what is asked of each byte
--   lead_rows          after the first byte of a character;  form_rows_lem: after another
--   lead_most, follow_most      the forms' numbers
--   form_waits         a form waits for a byte;  settle_waits: the machine goes on in rows that wait
--
-- Assumes nothing.
use Rattle.std.specs.Prelude.{ℕ, zero, suc, ◌≤◌, ◌<◌, ◌≡◌, refl, Bool, true, false, ◌&&◌, ◌||◌, List, [], ◌∷◌, T, eqb, leb, ltb}
use Rattle.std.proofs.Common.{arith, sym, ap₂, subst, eqb→eq, eqb-true}
use Rattle.std.proofs.Math.Dec.{leb→le}
use Rattle.std.proofs.lemmas.Bool.{eqb-false, lt-leb}
use Rattle.choice.specs.When.{when}
use Rattle.xml.specs.Class.{Range, Class, Row, Rows, in_class, keep, derive}
use Rattle.xml.proofs.Class.Laws.{and_l, and_r}
use Rattle.xml.specs.Chars.{utf8}
use Rattle.xml.specs.Grammar.{Ev}
use Rattle.xml.specs.Machine.{State, goes, settle}
use Rattle.chars.specs.Forms.{lead_form, lowest_in, highest_in, rest_of, follows, whole}
use Rattle.text_right.specs.Stands.{form_rows}

unfoldable pub same_class : Class → Class → Bool
same_class [] [] = true
same_class [] (d ∷ ds) = false
same_class (c ∷ cs) [] = false
same_class (c ∷ cs) (d ∷ ds) = eqb c.lo d.lo && (eqb c.hi d.hi && same_class cs ds)

unfoldable pub same_row : Row → Row → Bool
same_row [] [] = true
same_row [] (d ∷ ds) = false
same_row (c ∷ cs) [] = false
same_row (c ∷ cs) (d ∷ ds) = same_class c d && same_row cs ds

unfoldable pub same_rows : Rows → Rows → Bool
same_rows [] [] = true
same_rows [] (d ∷ ds) = false
same_rows (c ∷ cs) [] = false
same_rows (c ∷ cs) (d ∷ ds) = same_row c d && same_rows cs ds

same_class_lem : (c d : Class) → T (same_class c d) → c ≡ d
unfolding same_class
same_class_lem [] [] t = refl
same_class_lem [] (d ∷ ds) t = absurd t
same_class_lem (c ∷ cs) [] t = absurd t
same_class_lem (c ∷ cs) (d ∷ ds) t =
    ap₂ (λ x y. x ∷ y)
    (ap₂ {A = ℕ} {B = ℕ} {C = Range} (λ x y. record { lo = x; hi = y }) (eqb→eq _ _ (and_l (eqb c.lo d.lo) _ t))
    (eqb→eq _ _ (and_l (eqb c.hi d.hi) _ (and_r (eqb c.lo d.lo) _ t))))
    (same_class_lem cs ds (and_r (eqb c.hi d.hi) _ (and_r (eqb c.lo d.lo) _ t)))

same_row_lem : (c d : Row) → T (same_row c d) → c ≡ d
unfolding same_row
same_row_lem [] [] t = refl
same_row_lem [] (d ∷ ds) t = absurd t
same_row_lem (c ∷ cs) [] t = absurd t
same_row_lem (c ∷ cs) (d ∷ ds) t = ap₂ (λ x y. x ∷ y) (same_class_lem c d (and_l (same_class c d) _ t)) (same_row_lem cs ds (and_r (same_class c d) _ t))

pub same_rows_lem : (c d : Rows) → T (same_rows c d) → c ≡ d
unfolding same_rows
same_rows_lem [] [] t = refl
same_rows_lem [] (d ∷ ds) t = absurd t
same_rows_lem (c ∷ cs) [] t = absurd t
same_rows_lem (c ∷ cs) (d ∷ ds) t = ap₂ (λ x y. x ∷ y) (same_row_lem c d (and_l (same_row c d) _ t)) (same_rows_lem cs ds (and_r (same_row c d) _ t))

unfoldable pub up_to : ℕ → (ℕ → Bool) → Bool
up_to zero f = true
up_to (suc k) f = f k && up_to k f

pub below : (k : ℕ) (f : ℕ → Bool) → T (up_to k f) → (n : ℕ) → n < k → T (f n)
unfolding up_to
below zero f t n h = absurd (omega arith)
below (suc k) f t n h = go (eqb n k) refl (and_l (f k) (up_to k f) t) (λ d. below k f (and_r (f k) (up_to k f) t) n (less d))
  where
    less : (n ≡ k → ⊥) → n < k
    less d = omega arith

    go : (x : Bool) → eqb n k ≡ x → T (f k) → ((n ≡ k → ⊥) → T (f n)) → T (f n)
    go true e u g = subst (λ z. T (f z)) (sym (eqb-true n k e)) u
    go false e u g = g (eqb-false n k e)

unfoldable pub next_rows : ℕ → Rows
next_rows x = when (eqb x 0) [] (when (eqb x whole) ([] ∷ []) (form_rows x))

unfoldable pub lead_test : ℕ → Bool
lead_test b = same_rows (derive b utf8) (next_rows (lead_form b)) && ltb (lead_form b) 10

unfoldable pub follow_test : ℕ → ℕ → Bool
follow_test f b = same_rows (derive b (form_rows f)) (next_rows (follows f b)) && ltb (follows f b) 11

lead_passes : T (up_to 256 lead_test)
unfolding up_to lead_test same_rows same_row same_class derive keep in_class next_rows lead_form form_rows when
lead_passes = tt

pub lead_rows : (b : ℕ) → b < 256 → derive b utf8 ≡ next_rows (lead_form b)
unfolding lead_test
lead_rows b h = same_rows_lem _ _ (and_l (same_rows (derive b utf8) (next_rows (lead_form b))) (ltb (lead_form b) 10) (below 256 lead_test lead_passes b h))

pub lead_most : (b : ℕ) → b < 256 → lead_form b < 10
unfolding lead_test
lead_most b h = leb→le _ _ (and_r (same_rows (derive b utf8) (next_rows (lead_form b))) _ (below 256 lead_test lead_passes b h))

follow_passes : T (up_to 10 (λ f. leb f 0 || up_to 256 (follow_test f)))
unfolding up_to follow_test same_rows same_row same_class derive keep in_class next_rows follows lowest_in highest_in rest_of form_rows when
follow_passes = tt

or_other : (a b : Bool) → a ≡ false → T (a || b) → T b
or_other true b e t = absurd (subst T e tt)
or_other false b e t = t

module _ (f b : ℕ) (l : 1 ≤ f) (m : f ≤ 9) (h : b < 256) where
  passes : T (follow_test f b)
  passes =
      below 256 (follow_test f)
      (or_other (leb f 0) _ (lt-leb f 0 l) (below 10 (λ g. leb g 0 || up_to 256 (follow_test g)) follow_passes f (omega arith)))
      b h

  pub form_rows_lem : derive b (form_rows f) ≡ next_rows (follows f b)
  unfolding follow_test
  form_rows_lem = same_rows_lem _ _ (and_l (same_rows (derive b (form_rows f)) (next_rows (follows f b))) (ltb (follows f b) 11) passes)

  pub follow_most : follows f b < 11
  unfolding follow_test
  follow_most = leb→le _ _ (and_r (same_rows (derive b (form_rows f)) (next_rows (follows f b))) _ passes)

-- the first row goes on
unfoldable pub waits : Rows → Bool
waits [] = false
waits ([] ∷ rs) = false
waits ((c ∷ r) ∷ rs) = true

pub settle_waits : (rs : Rows) (r : ℕ) (es : List Ev) (k : State) → T (waits rs) → settle rs r es k ≡ goes [] (State.rows rs r es k)
unfolding waits
settle_waits [] r es k t = absurd t
settle_waits ([] ∷ rs) r es k t = absurd t
settle_waits ((c ∷ x) ∷ rs) r es k t = refl

forms_wait : T (up_to 10 (λ f. waits (form_rows f)))
unfolding up_to waits form_rows when
forms_wait = tt

pub form_waits : (f : ℕ) → f ≤ 9 → T (waits (form_rows f))
form_waits f h = below 10 (λ g. waits (form_rows g)) forms_wait f (omega arith)
