-- The table of the bytes' marks, and what each mark means.
--
--   marks_table         the table that the code has (crate chars, Table), under a shut name;  table_is: it is that
--   every f i l        the test f passes at each place of l, counted from i, and its entry;  at_each: so at a place
--   same a b           two answers are the same, as a test;  same_is: they are
--   agrees c m         the mark m is in the table exactly at the bytes of the class c;  mark_is: so for every byte
--   plain_mark, double_mark, single_mark, dash_mark, name_mark_lem, start_mark, blank_mark      the seven marks
--   beyond_mark        a byte of 128 or more
--
-- Assumes nothing.
use Rattle.std.specs.Prelude.{ℕ, zero, suc, ◌+◌, ◌≤◌, ◌<◌, ◌≡◌, refl, Bool, ◌&&◌, ◌||◌, List, [], ◌∷◌, T, eqb, leb, ltb, length, get_or}
use Rattle.std.proofs.Common.{add-zero, zero-add, add-suc, suc-add, le_of_suc-le-suc, not-suc-le-zero, arith, ◌∙◌, subst, leb→le}
use Rattle.std.proofs.Math.Path.{sym, ap}
use Rattle.std.proofs.Math.Bool.{true, false, not}
use Rattle.std.specs.Int.Bits.{bit_and}
use Rattle.std.proofs.Math.ListN.{get_or-eq_default}
use borrow.Author.Tests.{lt-leb, le-leb, ltb-true, ltb-false}
use Rattle.xml.specs.Class.{Class, in_class}
use Rattle.xml.proofs.Class.Laws.{and_l, and_r}
use Rattle.xml.specs.Chars.{blank, name_start, name_char, beyond, no_dash, plain, unquoted}
use Rattle.chars.specs.Marks.{marked}
use Rattle.chars.specs.Table

-- shut, so that it is not written out wherever it stands
unfoldable pub marks_table : List ℕ
marks_table = Table.marks_table

pub table_is : marks_table ≡ Table.marks_table
unfolding marks_table
table_is = refl

unfoldable pub every : (ℕ → ℕ → Bool) → ℕ → List ℕ → Bool
every f i [] = true
every f i (x ∷ xs) = f i x && every f (suc i) xs

from : (f : ℕ → ℕ → Bool) (xs : List ℕ) (i : ℕ) → T (every f i xs) → (k : ℕ) → k < length xs → T (f (i + k) (get_or xs k 0))
unfolding every
from f [] i t k h = absurd (not-suc-le-zero h)
from f (x ∷ xs) i t zero h = subst (λ (m : ℕ). T (f m x)) (sym (add-zero i)) (and_l (f i x) (every f (suc i) xs) t)
from f (x ∷ xs) i t (suc k) h =
    subst (λ (m : ℕ). T (f m (get_or xs k 0))) (suc-add i k ∙ sym (add-suc i k))
    (from f xs (suc i) (and_r (f i x) (every f (suc i) xs) t) k (le_of_suc-le-suc h))

pub at_each : (f : ℕ → ℕ → Bool) (xs : List ℕ) → T (every f 0 xs) → (k : ℕ) → k < length xs → T (f k (get_or xs k 0))
at_each f xs t k h = subst (λ (m : ℕ). T (f m (get_or xs k 0))) (zero-add k) (from f xs 0 t k h)

unfoldable pub same : Bool → Bool → Bool
same true b = b
same false b = not b

pub same_is : (a b : Bool) → T (same a b) → a ≡ b
unfolding same
same_is true true t = refl
same_is true false t = absurd t
same_is false true t = absurd t
same_is false false t = refl

unfoldable pub agrees : Class → ℕ → ℕ → ℕ → Bool
agrees c m i x = same (not (eqb (bit_and x m) 0)) (in_class c i)

-- no byte of the class is past 255
unfoldable pub low : Class → Bool
low [] = true
low (r ∷ c) = ltb r.hi 256 && low c

past : (c : Class) (b : ℕ) → T (low c) → 256 ≤ b → in_class c b ≡ false
unfolding low in_class
past [] b t h = refl
past (r ∷ c) b t h =
    let l : r.hi < 256 = leb→le _ _ (and_l (ltb r.hi 256) (low c) t) in
    let l' : r.hi < b = omega arith in
    ap (λ x. (leb r.lo b && x) || in_class c b) (lt-leb b r.hi l')
    ∙ ap (λ x. x || in_class c b) (and_false (leb r.lo b))
    ∙ past c b (and_r (ltb r.hi 256) (low c) t) h
  where
    and_false : (x : Bool) → (x && false) ≡ false
    and_false true = refl
    and_false false = refl

table_length : length marks_table ≡ 256
unfolding marks_table
table_length = refl

module _ (c : Class) (m : ℕ) (t : T (every (agrees c m) 0 marks_table)) (l : T (low c)) (z : eqb (bit_and 0 m) 0 ≡ true) where
  go : (b : ℕ) (x : Bool) → ltb b 256 ≡ x → marked marks_table b m ≡ in_class c b
  unfolding marked same agrees
  go b true e = same_is _ _ (at_each (agrees c m) marks_table t b (let h : b < 256 = ltb-true b 256 e in omega (arith, table_length)))
  go b false e =
      let h : 256 ≤ b = ltb-false b 256 e in
      ap (λ x. not (eqb (bit_and x m) 0)) (get_or-eq_default marks_table 0 (omega (arith, table_length)))
      ∙ ap not z ∙ sym (past c b l h)

  pub mark_is : (b : ℕ) → marked marks_table b m ≡ in_class c b
  mark_is b = go b _ refl

pub plain_mark : (b : ℕ) → marked marks_table b 1 ≡ in_class plain b
unfolding every agrees same marks_table in_class low
plain_mark b = mark_is plain 1 tt tt refl b

pub double_mark : (b : ℕ) → marked marks_table b 2 ≡ in_class (unquoted true) b
unfolding every agrees same marks_table in_class low
double_mark b = mark_is (unquoted true) 2 tt tt refl b

pub single_mark : (b : ℕ) → marked marks_table b 4 ≡ in_class (unquoted false) b
unfolding every agrees same marks_table in_class low
single_mark b = mark_is (unquoted false) 4 tt tt refl b

pub dash_mark : (b : ℕ) → marked marks_table b 8 ≡ in_class no_dash b
unfolding every agrees same marks_table in_class low
dash_mark b = mark_is no_dash 8 tt tt refl b

pub name_mark_lem : (b : ℕ) → marked marks_table b 16 ≡ in_class name_char b
unfolding every agrees same marks_table in_class low
name_mark_lem b = mark_is name_char 16 tt tt refl b

pub start_mark : (b : ℕ) → marked marks_table b 32 ≡ in_class name_start b
unfolding every agrees same marks_table in_class low
start_mark b = mark_is name_start 32 tt tt refl b

pub blank_mark : (b : ℕ) → marked marks_table b 64 ≡ in_class blank b
unfolding every agrees same marks_table in_class low
blank_mark b = mark_is blank 64 tt tt refl b

pub beyond_mark : (b : ℕ) → b < 256 → leb 128 b ≡ in_class beyond b
unfolding in_class
beyond_mark b h = go (leb 128 b) (le-leb b 255 (omega arith))
  where
    go : (x : Bool) → leb b 255 ≡ true → x ≡ ((x && leb b 255) || false)
    go true e = sym (ap (λ y. y || false) e)
    go false e = refl
