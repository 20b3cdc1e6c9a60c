-- What writing a number does to records, and that records are all there is to know of their bytes.
--
--   Whole S           what the laws ask of a shape: its fields are among its numbers, and a record is told by its fields
--   room_words        how many numbers the bytes have;  list_length: how many records
--   get_is            a number read is a field read
--   put_is            a number written is a field written
--   again             two writes to one record
--   laid_length       how many bytes records take
--   records_laid      bytes are those of their records;  records_same: so bytes with the same records are the same
--
-- Assumes nothing.
use Prim.Native.Nat.{ℕ, zero, suc, ◌+◌, ◌-◌, ◌*◌, ◌/◌, ◌%◌, ◌≤◌, ◌<◌}
use Rattle.std.proofs.Math.Decide.{dec_lt}
use Rattle.std.proofs.Math.Nat.{div-add-mod}
use Rattle.std.proofs.Common.{mod-lt, div-lt_iff_lt-mul, mul_comm, mul-zero, mul-suc, arith, ◌∙◌, subst, get_or-set_same, set-set}
use Rattle.std.specs.Prelude.{◌≡◌, refl, Bool, eqb, ltb, length, set}
use Rattle.std.proofs.Math.Path.{sym, ap, ap₂}
use Rattle.std.proofs.Math.Bool.{true, false}
use mathlib.Core.List.{List, []}
use Rattle.std.proofs.Math.ListN.{get_or}
use borrow.Author.Tests.{eqb-true, eqb-false, lt-ltb, le-ltb}
use Rattle.choice.specs.When.{when, when_yes, when_no}
use Rattle.words.specs.Words.{words, bytes_of, Bytes}
use Rattle.words.specs.Words.Laws.{words_length, bytes_words, bytes_length}
use Rattle.words.specs.Rows.{field, rows_length, rows_at, rows_same, rows_put, is_rows, field_put, field_other}
use Rattle.words.specs.Records.{Shape, Records, set_at, room, blank, with_field, spare_of, records_of, records_in, at, put_at, number_at, laid_numbers, laid}

pub record Whole {A : Type 0} (S : Shape A) : Type 0 where
  pub some : 0 < S.wide
  pub fits : S.fields ≤ S.wide
  pub made : (r s : ℕ → ℕ) → ((g : ℕ) → g < S.fields → r g ≡ s g) → S.make r ≡ S.make s
  pub read : (r : ℕ → ℕ) (g : ℕ) → g < S.fields → S.field g (S.make r) ≡ r g

-- place g of record i is one of all
pub in_room : (w n i g : ℕ) → i < n → g < w → w * i + g < w * n
in_room w zero i g hi hg = absurd (omega arith)
in_room w (suc n) zero g hi hg = omega (arith, mul-zero w, mul-suc w n)
in_room w (suc n) (suc i) g hi hg = omega (arith, mul-suc w i, mul-suc w n, in_room w n i g (omega arith) hg)

module _ {A : Type 0} (S : Shape A) (whole : Whole S) where
  abbrev w : ℕ
  w = S.wide

  pub room_words : (bs : List ℕ) → length bs ≡ room S → length (words bs) ≡ w * S.count
  unfolding room
  room_words bs e = words_length (w * S.count) bs e

  pub list_length : (bs : List ℕ) → length (records_in S bs).list ≡ S.count
  unfolding records_in
  list_length bs = rows_length S.count (λ i. S.make (field w (words bs) i))

  pub at_is : (ws : List ℕ) (i : ℕ) → i < S.count → at S (records_of S ws) i ≡ S.make (field w ws i)
  at_is ws i h = rows_at S.count (λ k. S.make (field w ws k)) (blank S) i h

  get_field : (ws : List ℕ) (i g : ℕ) → i < S.count → g < S.fields → get_or ws (w * i + g) 0 ≡ S.field g (at S (records_of S ws) i)
  get_field ws i g hi hg = sym (ap (S.field g) (at_is ws i hi) ∙ whole.read (field w ws i) g hg)

  pub get_is :
      (bs : List ℕ) (i g r : ℕ) → i < S.count → g < S.fields → r ≡ get_or (words bs) (w * i + g) 0 → r ≡ S.field g (at S (records_in S bs) i)
  unfolding records_in
  get_is bs i g r hi hg e = e ∙ get_field (words bs) i g hi hg

  -- number g of record i is written
  module _ (ws : List ℕ) (i g v : ℕ) (hi : i < S.count) (hg : g < S.fields) (long : length ws ≡ w * S.count) where
    abbrev after : List ℕ
    after = set ws (w * i + g) v

    narrow : g < w
    narrow = omega (arith, whole.fits)

    inside : w * i + g < length ws
    inside = subst (λ n. w * i + g < n) (sym long) (in_room w S.count i g hi narrow)

    here : (h : ℕ) (b : Bool) → h < w → eqb h g ≡ b → field w after i h ≡ when b v (field w ws i h)
    unfolding when
    here h true l e = ap (field w after i) (eqb-true h g e) ∙ field_put w ws i g v inside
    here h false l e = field_other w ws i g v i h narrow l (λ _ same. eqb-false h g e same)

    this : S.make (field w after i) ≡ with_field S g v (at S (records_of S ws) i)
    this =
        whole.made (field w after i) (λ h. when (eqb h g) v (S.field h (at S (records_of S ws) i)))
        (λ h l. here h (eqb h g) (omega (arith, whole.fits)) refl ∙ ap (when (eqb h g) v) (get_field ws i h hi l))

    other : (k : ℕ) → (k ≡ i → ⊥) → S.make (field w after k) ≡ S.make (field w ws k)
    other k d =
        whole.made (field w after k) (field w ws k) (λ h l. field_other w ws i g v k h narrow (omega (arith, whole.fits)) (λ e _. d e))

    beside : (k : ℕ) → spare_of S (field w after k) ≡ spare_of S (field w ws k)
    beside k =
        rows_same (w - S.fields) (λ j. field w after k (S.fields + j)) (λ j. field w ws k (S.fields + j))
        (λ j l. field_other w ws i g v k (S.fields + j) narrow (omega arith) (λ _ e. absurd (omega arith)))

    put_field : records_of S after ≡ put_at S i g v (records_of S ws)
    unfolding put_at
    put_field =
        ap₂ (λ (l : List A) (s : List (List ℕ)). record { list = l; spare = s })
        (rows_put S.count (λ k. S.make (field w ws k)) (λ k. S.make (field w after k)) i _ this other)
        (rows_same S.count _ _ (λ k h. beside k))

  pub put_is :
      (bs bs' : List ℕ) (i g v : ℕ) → length bs ≡ room S → i < S.count → g < S.fields → words bs' ≡ set (words bs) (w * i + g) v →
      records_in S bs' ≡ put_at S i g v (records_in S bs)
  unfolding records_in
  put_is bs bs' i g v long hi hg e = ap (records_of S) e ∙ put_field (words bs) i g v hi hg (room_words bs long)

  -- two writes to one record
  pub again :
      (i : ℕ) (R : Records A) → i < length R.list → (a : A) (f : A → A) (R₁ R₂ : Records A) → R₁ ≡ set_at i a R →
      R₂ ≡ set_at i (f (at S R₁ i)) R₁ → R₂ ≡ set_at i (f a) R
  again i R h a f R₁ R₂ e₁ e₂ =
      e₂
      ∙ ap (λ X. set_at i (f (at S X i)) X) e₁
      ∙ ap (λ (x : A). record { list = set (set R.list i a) i (f x); spare = R.spare }) (get_or-set_same R.list i a (blank S) h)
      ∙ ap (λ (l : List A). record { list = l; spare = R.spare }) (set-set R.list i a (f a))

  -- the bytes of records

  spare_at : (r : ℕ → ℕ) (g : ℕ) → S.fields ≤ g → g < w → get_or (spare_of S r) (g - S.fields) 0 ≡ r g
  spare_at r g h l =
      let e : S.fields + (g - S.fields) ≡ g = omega arith in
      rows_at (w - S.fields) (λ j. r (S.fields + j)) 0 (g - S.fields) (omega arith) ∙ ap r e

  number_at_lem : (ws : List ℕ) (i g : ℕ) → i < S.count → g < w → number_at S (records_of S ws) i g ≡ field w ws i g
  unfolding number_at
  number_at_lem ws i g hi hg = by (dec_lt g S.fields)
    where
      spared : ℕ
      spared = get_or (get_or (records_of S ws).spare i []) (g - S.fields) 0

      by : Dec (g < S.fields) → when (ltb g S.fields) (S.field g (at S (records_of S ws) i)) spared ≡ field w ws i g
      by (yes l) = sym (when_yes (ltb g S.fields) (field w ws i g) _ _ (lt-ltb g S.fields l) (get_field ws i g hi l))
      by (no m) =
          sym
          (when_no (ltb g S.fields) (field w ws i g) _ _ (le-ltb g S.fields (omega arith))
          (sym
          (ap (λ s. get_or s (g - S.fields) 0) (rows_at S.count (λ k. spare_of S (field w ws k)) [] i hi)
          ∙ spare_at (field w ws i) g (omega arith) hg)))

  numbers_of : (ws : List ℕ) → length ws ≡ w * S.count → laid_numbers S (records_of S ws) ≡ ws
  unfolding laid_numbers
  numbers_of ws e =
      sym
      (is_rows (w * S.count) (λ j. number_at S (records_of S ws) (j / w) (j % w)) 0 ws e
      (λ j h. ap (λ k. get_or ws k 0) (sym (div-add-mod j w)) ∙ sym (number_at_lem ws (j / w) (j % w) (under j h) (mod-lt j whole.some))))
    where
      under : (j : ℕ) → j < w * S.count → j / w < S.count
      under j h = (div-lt_iff_lt-mul {k = w} {x = j} {y = S.count} whole.some).1 (subst (λ n. j < n) (mul_comm w S.count) h)

  pub laid_length : (R : Records A) → length (laid S R) ≡ room S
  unfolding room laid laid_numbers
  laid_length R = bytes_length (laid_numbers S R) ∙ ap (λ n. 4 * n) (rows_length (w * S.count) (λ j. number_at S R (j / w) (j % w)))

  pub records_laid : (bs : List ℕ) → length bs ≡ room S → Bytes bs → laid S (records_in S bs) ≡ bs
  unfolding room records_in laid
  records_laid bs e h = ap bytes_of (numbers_of (words bs) (room_words bs e)) ∙ bytes_words (w * S.count) bs e h

  pub records_same :
      (bs cs : List ℕ) → length bs ≡ room S → length cs ≡ room S → Bytes bs → Bytes cs → records_in S bs ≡ records_in S cs → bs ≡ cs
  records_same bs cs lb lc hb hc e = sym (records_laid bs lb hb) ∙ ap (laid S) e ∙ records_laid cs lc hc
