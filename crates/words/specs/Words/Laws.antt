-- What the numbers of bytes are, place by place.
--
--   words_at        the number at a place is that of its 4 bytes
--   words_put       a number written byte by byte is one number written
--   words_put_run   the bytes of a number written at its place are one number written;  one_run: bytes that are copied to a place are written there
--   words_length    how many numbers there are;  bytes_length: how many bytes
--   bytes_words     the bytes of the numbers of bytes are these, where their length is a multiple of 4
--   words_bytes     the numbers of the bytes of numbers under 2 ^ 32 are these
--   Spelt bs j v    the bytes of bs from j on are those of the number v;  bytes_spelt: those of a number among the bytes of numbers
--   first_byte, second_byte, third_byte, fourth_byte     each byte of the number of 4 bytes
--   bytes_same      so bytes of one length with the same numbers are the same
--
-- Assumes nothing.
use borrow.Rule.Slice.PartMut.{put_mid, Post-is}
use Rattle.std.specs.Prelude.{ℕ, zero, suc, ◌+◌, ◌-◌, ◌*◌, ◌/◌, ◌%◌, ◌≤◌, ◌<◌, ◌≡◌, refl, List, [], ◌∷◌, ◌++◌, length, get_or, set, take, drop}
use Rattle.std.proofs.Common.{add-one, arith, sym, ap, ap₂, ◌∙◌, append_assoc}
use Rattle.std.proofs.lemmas.List.Edits.{sets, sets-eq}
use Rattle.std.specs.Int.{w32, to_le_bytes}
use Rattle.choice.specs.Count.{add_two, add_three}
use Rattle.words.specs.Words.{word, words, bytes_of, Bytes}

pub word_bytes : (v : ℕ) → v < 4294967296 → word (v % 256) (v / 256 % 256) (v / 256 / 256 % 256) (v / 256 / 256 / 256 % 256) ≡ v
word_bytes v h = omega arith

-- j is the first byte of place i
at_bytes :
    (bs : List ℕ) (i j : ℕ) → j ≡ 4 * i → j + 4 ≤ length bs →
    word (get_or bs j 0) (get_or bs (suc j) 0) (get_or bs (suc (suc j)) 0) (get_or bs (suc (suc (suc j))) 0) ≡ get_or (words bs) i 0
unfolding words
at_bytes [] i j e h = absurd (omega arith)
at_bytes (a ∷ []) i j e h = absurd (omega arith)
at_bytes (a ∷ b ∷ []) i j e h = absurd (omega arith)
at_bytes (a ∷ b ∷ c ∷ []) i j e h = absurd (omega arith)
at_bytes (a ∷ b ∷ c ∷ d ∷ bs) zero zero e h = refl
at_bytes (a ∷ b ∷ c ∷ d ∷ bs) zero (suc j) e h = absurd (omega arith)
at_bytes (a ∷ b ∷ c ∷ d ∷ bs) (suc i) (suc (suc (suc (suc j)))) e h = at_bytes bs i j (omega arith) (omega arith)
at_bytes (a ∷ b ∷ c ∷ d ∷ bs) (suc i) zero e h = absurd (omega arith)
at_bytes (a ∷ b ∷ c ∷ d ∷ bs) (suc i) (suc zero) e h = absurd (omega arith)
at_bytes (a ∷ b ∷ c ∷ d ∷ bs) (suc i) (suc (suc zero)) e h = absurd (omega arith)
at_bytes (a ∷ b ∷ c ∷ d ∷ bs) (suc i) (suc (suc (suc zero))) e h = absurd (omega arith)

put_bytes :
    (bs : List ℕ) (i j w x y z : ℕ) → j ≡ 4 * i → j + 4 ≤ length bs →
    words (set (set (set (set bs j w) (suc j) x) (suc (suc j)) y) (suc (suc (suc j))) z) ≡ set (words bs) i (word w x y z)
unfolding words
put_bytes [] i j w x y z e h = absurd (omega arith)
put_bytes (a ∷ []) i j w x y z e h = absurd (omega arith)
put_bytes (a ∷ b ∷ []) i j w x y z e h = absurd (omega arith)
put_bytes (a ∷ b ∷ c ∷ []) i j w x y z e h = absurd (omega arith)
put_bytes (a ∷ b ∷ c ∷ d ∷ bs) zero zero w x y z e h = refl
put_bytes (a ∷ b ∷ c ∷ d ∷ bs) zero (suc j) w x y z e h = absurd (omega arith)
put_bytes (a ∷ b ∷ c ∷ d ∷ bs) (suc i) (suc (suc (suc (suc j)))) w x y z e h =
    ap (λ t. word a b c d ∷ t) (put_bytes bs i j w x y z (omega arith) (omega arith))
put_bytes (a ∷ b ∷ c ∷ d ∷ bs) (suc i) zero w x y z e h = absurd (omega arith)
put_bytes (a ∷ b ∷ c ∷ d ∷ bs) (suc i) (suc zero) w x y z e h = absurd (omega arith)
put_bytes (a ∷ b ∷ c ∷ d ∷ bs) (suc i) (suc (suc zero)) w x y z e h = absurd (omega arith)
put_bytes (a ∷ b ∷ c ∷ d ∷ bs) (suc i) (suc (suc (suc zero))) w x y z e h = absurd (omega arith)

pub words_at :
    (bs : List ℕ) (i : ℕ) → 4 * i + 4 ≤ length bs →
    word (get_or bs (4 * i) 0) (get_or bs (4 * i + 1) 0) (get_or bs (4 * i + 2) 0) (get_or bs (4 * i + 3) 0) ≡ get_or (words bs) i 0
words_at bs i h =
    ap (λ j. word (get_or bs (4 * i) 0) (get_or bs j 0) (get_or bs (4 * i + 2) 0) (get_or bs (4 * i + 3) 0)) (add-one (4 * i))
    ∙ ap₂ (λ j k. word (get_or bs (4 * i) 0) (get_or bs (suc (4 * i)) 0) (get_or bs j 0) (get_or bs k 0)) (add_two (4 * i)) (add_three (4 * i))
    ∙ at_bytes bs i (4 * i) refl h

module _ (bs : List ℕ) (i v : ℕ) where
  -- the bytes of v from place i on
  abbrev wrote : ℕ → ℕ → ℕ → List ℕ
  wrote j k l = set (set (set (set bs (4 * i) (v % 256)) j (v / 256 % 256)) k (v / 256 / 256 % 256)) l (v / 256 / 256 / 256 % 256)

  pub words_put : 4 * i + 4 ≤ length bs → v < 4294967296 → words (wrote (4 * i + 1) (4 * i + 2) (4 * i + 3)) ≡ set (words bs) i v
  words_put h l =
      ap (λ j. words (wrote j (4 * i + 2) (4 * i + 3))) (add-one (4 * i))
      ∙ ap₂ (λ j k. words (wrote (suc (4 * i)) j k)) (add_two (4 * i)) (add_three (4 * i))
      ∙ put_bytes bs i (4 * i) _ _ _ _ refl h
      ∙ ap (set (words bs) i) (word_bytes v l)

le_word : (v : ℕ) → v < 4294967296 → word (v % 256) (v / 256 % 256) (v / 65536 % 256) (v / 16777216 % 256) ≡ v
le_word v h = omega arith

-- bytes that were copied to a place are written there
pub one_run :
    (l vs ys : List ℕ) (at : ℕ) → ys ≡ vs → at + length vs ≤ length l → put_mid at (at + length vs - at) l ys ≡ sets l at vs
one_run l vs ys at same fits =
    ap₂ (λ x y. take at l ++ (x ++ y)) same (Post-is at (at + length vs) l (omega arith))
    ∙ sym (append_assoc (take at l) vs (drop (at + length vs) l)) ∙ sym (sets-eq vs l at fits)

pub words_put_run :
    (bs : List ℕ) (i v : ℕ) → 4 * i + 4 ≤ length bs → v < 4294967296 → words (sets bs (4 * i) (to_le_bytes w32 v)) ≡ set (words bs) i v
words_put_run bs i v h l = put_bytes bs i (4 * i) _ _ _ _ refl h ∙ ap (set (words bs) i) (le_word v l)

pub words_length : (n : ℕ) (bs : List ℕ) → length bs ≡ 4 * n → length (words bs) ≡ n
unfolding words
words_length zero [] l = refl
words_length zero (a ∷ bs) l = absurd (omega arith)
words_length (suc n) [] l = absurd (omega arith)
words_length (suc n) (a ∷ []) l = absurd (omega arith)
words_length (suc n) (a ∷ b ∷ []) l = absurd (omega arith)
words_length (suc n) (a ∷ b ∷ c ∷ []) l = absurd (omega arith)
words_length (suc n) (a ∷ b ∷ c ∷ d ∷ bs) l = ap suc (words_length n bs (omega arith))

-- each byte of a number
pub first_byte : (a b c d : ℕ) → a < 256 → word a b c d % 256 ≡ a
first_byte a b c d h = omega arith

pub second_byte : (a b c d : ℕ) → a < 256 → b < 256 → word a b c d / 256 % 256 ≡ b
second_byte a b c d ha hb = omega arith

pub third_byte : (a b c d : ℕ) → a < 256 → b < 256 → c < 256 → word a b c d / 256 / 256 % 256 ≡ c
third_byte a b c d ha hb hc = omega arith

pub fourth_byte : (a b c d : ℕ) → a < 256 → b < 256 → c < 256 → d < 256 → word a b c d / 256 / 256 / 256 % 256 ≡ d
fourth_byte a b c d ha hb hc hd = omega arith

pub bytes_words : (n : ℕ) (bs : List ℕ) → length bs ≡ 4 * n → Bytes bs → bytes_of (words bs) ≡ bs
unfolding words bytes_of
bytes_words zero [] l h = refl
bytes_words zero (a ∷ bs) l h = absurd (omega arith)
bytes_words (suc n) [] l h = absurd (omega arith)
bytes_words (suc n) (a ∷ []) l h = absurd (omega arith)
bytes_words (suc n) (a ∷ b ∷ []) l h = absurd (omega arith)
bytes_words (suc n) (a ∷ b ∷ c ∷ []) l h = absurd (omega arith)
bytes_words (suc n) (a ∷ b ∷ c ∷ d ∷ bs) l h =
    four (first_byte a b c d (h 0)) (second_byte a b c d (h 0) (h 1)) (third_byte a b c d (h 0) (h 1) (h 2))
    (fourth_byte a b c d (h 0) (h 1) (h 2) (h 3)) (bytes_words n bs (omega arith) (λ i. h (suc (suc (suc (suc i))))))
  where
    four :
        {p q r s : ℕ} {u v : List ℕ} → p ≡ a → q ≡ b → r ≡ c → s ≡ d → u ≡ v →
        ◌≡◌ {A = List ℕ} (p ∷ q ∷ r ∷ s ∷ u) (a ∷ b ∷ c ∷ d ∷ v)
    four e₁ e₂ e₃ e₄ e = cc

pub words_bytes : (ws : List ℕ) → ((i : ℕ) → get_or ws i 0 < 4294967296) → words (bytes_of ws) ≡ ws
unfolding words bytes_of
words_bytes [] h = refl
words_bytes (v ∷ ws) h = ap₂ ◌∷◌ (word_bytes v (h 0)) (words_bytes ws (λ i. h (suc i)))

pub bytes_length : (ws : List ℕ) → length (bytes_of ws) ≡ 4 * length ws
unfolding bytes_of
bytes_length [] = refl
bytes_length (v ∷ ws) = omega (arith, bytes_length ws)

pub bytes_same :
    (n : ℕ) (bs cs : List ℕ) → length bs ≡ 4 * n → length cs ≡ 4 * n → Bytes bs → Bytes cs → words bs ≡ words cs → bs ≡ cs
bytes_same n bs cs lb lc hb hc e = sym (bytes_words n bs lb hb) ∙ ap bytes_of e ∙ bytes_words n cs lc hc

pub record Spelt (bs : List ℕ) (j v : ℕ) : Type 0 where
  pub first : get_or bs j 0 ≡ v % 256
  pub second : get_or bs (suc j) 0 ≡ v / 256 % 256
  pub third : get_or bs (suc (suc j)) 0 ≡ v / 256 / 256 % 256
  pub fourth : get_or bs (suc (suc (suc j))) 0 ≡ v / 256 / 256 / 256 % 256

pub bytes_spelt : (ws : List ℕ) (i j : ℕ) → j ≡ 4 * i → Spelt (bytes_of ws) j (get_or ws i 0)
unfolding bytes_of
bytes_spelt [] i j e = record { first = refl; second = refl; third = refl; fourth = refl }
bytes_spelt (v ∷ ws) zero zero e = record { first = refl; second = refl; third = refl; fourth = refl }
bytes_spelt (v ∷ ws) zero (suc j) e = absurd (omega arith)
bytes_spelt (v ∷ ws) (suc i) (suc (suc (suc (suc j)))) e =
    let rest : Spelt (bytes_of ws) j (get_or ws i 0) = bytes_spelt ws i j (omega arith) in
    record { first = rest.first; second = rest.second; third = rest.third; fourth = rest.fourth }
bytes_spelt (v ∷ ws) (suc i) zero e = absurd (omega arith)
bytes_spelt (v ∷ ws) (suc i) (suc zero) e = absurd (omega arith)
bytes_spelt (v ∷ ws) (suc i) (suc (suc zero)) e = absurd (omega arith)
bytes_spelt (v ∷ ws) (suc i) (suc (suc (suc zero))) e = absurd (omega arith)
