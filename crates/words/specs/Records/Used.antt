-- The first records alone: what they are read from, and that they are read as they were laid.
--
--   used_same         bytes that agree as far as the first records reach have the same first records
--   read-back         the first records are read from the bytes of all as they are, where their fields are numbers of 4 bytes
--
-- Assumes nothing.
use Rattle.std.specs.Prelude.{ℕ, zero, suc, ◌+◌, ◌*◌, ◌/◌, ◌%◌, ◌≤◌, ◌<◌, ◌≡◌, refl, List, [], ◌∷◌, ltb, length, take}
use Rattle.std.proofs.Math.Nat.{mul-add-div, mul-add-mod_self_left, div-eq_of_lt, mod-eq_of_lt}
use Rattle.std.proofs.Common.{arith, ap, ◌∙◌, subst, ext_get_or, get_or-take, length-take-le, lt-ltb}
use Rattle.std.proofs.Math.Path.{sym, ap₂}
use Rattle.std.proofs.Math.ListN.{get_or}
use Rattle.choice.specs.When.{when_true}
use Rattle.words.specs.Words.{word, words, bytes_of}
use Rattle.words.specs.Words.Laws.{words_at, word_bytes}
use Rattle.words.specs.Rows.{field, rows_at}
use Rattle.words.specs.Records.{Shape, Records, blank, records_in, at, number_at, laid_numbers, laid}
use Rattle.words.specs.Records.Laws.{Whole, in_room, list_length, at_is}

-- a number of 4 bytes is read as it was laid, whatever stands beside it
laid_number : (ws : List ℕ) (i : ℕ) → get_or ws i 0 < 4294967296 → get_or (words (bytes_of ws)) i 0 ≡ get_or ws i 0
unfolding words bytes_of
laid_number [] i h = refl
laid_number (v ∷ ws) zero h = word_bytes v h
laid_number (v ∷ ws) (suc i) h = laid_number ws i h

-- numbers are read from their bytes alone
module _ (n : ℕ) (bs cs : List ℕ) (lb : 4 * n ≤ length bs) (lc : 4 * n ≤ length cs) (e : take (4 * n) bs ≡ take (4 * n) cs) where
  same_byte : (i : ℕ) → i < 4 * n → get_or bs i 0 ≡ get_or cs i 0
  same_byte i h = sym (get_or-take (4 * n) bs i 0 h) ∙ ap (λ (l : List ℕ). get_or l i 0) e ∙ get_or-take (4 * n) cs i 0 h

  same_number : (i : ℕ) → i < n → get_or (words bs) i 0 ≡ get_or (words cs) i 0
  same_number i h =
      sym (words_at bs i (omega arith))
      ∙ ap₂ (λ a b. word a b (get_or bs (4 * i + 2) 0) (get_or bs (4 * i + 3) 0)) (same_byte (4 * i) (omega arith)) (same_byte (4 * i + 1) (omega arith))
      ∙ ap₂ (λ c d. word (get_or cs (4 * i) 0) (get_or cs (4 * i + 1) 0) c d) (same_byte (4 * i + 2) (omega arith)) (same_byte (4 * i + 3) (omega arith))
      ∙ words_at cs i (omega arith)

module _ {A : Type 0} (S : Shape A) (whole : Whole S) where
  abbrev w : ℕ
  w = S.wide

  -- two lists that agree at the first places
  first_same :
      (d : ℕ) (x : A) (l k : List A) → d ≤ length l → d ≤ length k → ((i : ℕ) → i < d → get_or l i x ≡ get_or k i x) → take d l ≡ take d k
  first_same d x l k hl hk e =
      ext_get_or x (take d l) (take d k) (length-take-le d l hl ∙ sym (length-take-le d k hk))
      (λ i h.
      let under : i < d = omega (arith, length-take-le d l hl) in
      get_or-take d l i x under ∙ e i under ∙ sym (get_or-take d k i x under))

  pub used_same :
      (d : ℕ) (bs cs : List ℕ) → d ≤ S.count → 4 * (w * d) ≤ length bs → 4 * (w * d) ≤ length cs → take (4 * (w * d)) bs ≡ take (4 * (w * d)) cs →
      take d (records_in S bs).list ≡ take d (records_in S cs).list
  unfolding records_in
  used_same d bs cs few lb lc e =
      first_same d (blank S) (records_in S bs).list (records_in S cs).list (omega (arith, list_length S whole bs))
      (omega (arith, list_length S whole cs))
      (λ i h.
      at_is S whole (words bs) i (omega arith)
      ∙ whole.made _ _ (λ g l. same_number (w * d) bs cs lb lc e (w * i + g) (in_room w d i g h (omega (arith, whole.fits))))
      ∙ sym (at_is S whole (words cs) i (omega arith)))

  module _ (R : Records A) (long : length R.list ≡ S.count) (told : (a : A) → S.make (λ g. S.field g a) ≡ a) where
    number_is : (i g : ℕ) → g < S.fields → number_at S R ((w * i + g) / w) ((w * i + g) % w) ≡ S.field g (at S R i)
    unfolding number_at
    number_is i g h =
        let narrow : g < w = omega (arith, whole.fits) in
        let row : (w * i + g) / w ≡ i = mul-add-div whole.some i g ∙ omega (arith, div-eq_of_lt narrow) in
        let place : (w * i + g) % w ≡ g = mul-add-mod_self_left w i g ∙ mod-eq_of_lt narrow in
        ap₂ (λ j k. number_at S R j k) row place ∙ when_true (ltb g S.fields) _ _ (lt-ltb g S.fields h)

    read_number :
        (i g : ℕ) → i < S.count → g < S.fields → S.field g (at S R i) < 4294967296 → field w (words (laid S R)) i g ≡ S.field g (at S R i)
    unfolding laid laid_numbers
    read_number i g hi hg small =
        let there : get_or (laid_numbers S R) (w * i + g) 0 ≡ S.field g (at S R i) =
        rows_at (w * S.count) (λ j. number_at S R (j / w) (j % w)) 0 (w * i + g) (in_room w S.count i g hi (omega (arith, whole.fits)))
        ∙ number_is i g hg in
        laid_number (laid_numbers S R) (w * i + g) (subst (λ v. v < 4294967296) (sym there) small) ∙ there

    pub read_back :
        (d : ℕ) → d ≤ S.count → ((i : ℕ) → i < d → (g : ℕ) → g < S.fields → S.field g (at S R i) < 4294967296) →
        take d (records_in S (laid S R)).list ≡ take d R.list
    unfolding records_in
    read_back d few small =
        first_same d (blank S) (records_in S (laid S R)).list R.list (omega (arith, list_length S whole (laid S R))) (omega arith)
        (λ i h.
        at_is S whole (words (laid S R)) i (omega arith)
        ∙ whole.made _ _ (λ g l. read_number i g (omega arith) l (small i h g l))
        ∙ told (at S R i))
