-- The laws of records (crate words, Records) for the one of a session's numbers.
--
--   room_is           how many bytes it takes, as a number
--   get_is, put_is    a number read is a field read, a number written a field written
--   write_parts       the writes of one call together;  stop_part: the one that says whether the session is stopped
--   numbers_same      bytes with the same numbers are the same
--
-- Assumes nothing.
use Rattle.std.specs.Prelude.{ℕ, zero, suc, ◌<◌, ◌≡◌, refl, length, get_or, set}
use Rattle.std.proofs.Common.{arith, ◌∙◌}
use Rattle.std.proofs.Math.Path.{sym, ap}
use mathlib.Core.List.{List, [], ◌∷◌}
use Rattle.std.proofs.Math.Seq.{get_or-set_same}
use Rattle.choice.specs.When.{when}
use Rattle.words.specs.Words.{words, Bytes}
use Rattle.words.specs.Rows.{rows}
use Rattle.words.specs.Records.{Records, set_at, blank, room, at, with_field, put_at, records_in}
use Rattle.words.specs.Records.Laws as records
use Rattle.words.specs.Records.Laws.{Whole}
use Rattle.numbers.specs.Numbers.{Numbers, make, field_of, shape, numbers_room, record_in, numbers_in, numbers_of, with_stop}

same_numbers : (r s : ℕ → ℕ) → r 0 ≡ s 0 → r 1 ≡ s 1 → r 2 ≡ s 2 → r 3 ≡ s 3 → r 4 ≡ s 4 → r 5 ≡ s 5 → make r ≡ make s
same_numbers r s e₀ e₁ e₂ e₃ e₄ e₅ = cc

read : (r : ℕ → ℕ) (g : ℕ) → g < 6 → field_of g (make r) ≡ r g
read r zero h = refl
read r (suc zero) h = refl
read r (suc (suc zero)) h = refl
read r (suc (suc (suc zero))) h = refl
read r (suc (suc (suc (suc zero)))) h = refl
read r (suc (suc (suc (suc (suc zero))))) h = refl
read r (suc (suc (suc (suc (suc (suc g)))))) h = absurd (omega arith)

pub whole : Whole shape
whole =
    record {
      some = omega arith;
      fits = omega arith;
      made =
          λ r s e.
          same_numbers r s (e 0 (omega arith)) (e 1 (omega arith)) (e 2 (omega arith)) (e 3 (omega arith)) (e 4 (omega arith)) (e 5 (omega arith));
      read = read;
    }

pub room_is : numbers_room ≡ 24
unfolding numbers_room room
room_is = refl

pub get_is : (bs : List ℕ) (g r : ℕ) → g < 6 → r ≡ get_or (words bs) g 0 → r ≡ field_of g (numbers_in bs)
unfolding record_in numbers_in
get_is bs g r h e = records.get_is shape whole bs 0 g r (omega arith) h (e ∙ ap (λ k. get_or (words bs) k 0) (omega arith))

pub put_is :
    (bs bs' : List ℕ) (g v : ℕ) → length bs ≡ numbers_room → g < 6 → words bs' ≡ set (words bs) g v → record_in bs' ≡ put_at shape 0 g v (record_in bs)
unfolding record_in numbers_room
put_is bs bs' g v long h e =
    records.put_is shape whole bs bs' 0 g v long (omega arith) h (e ∙ ap (λ k. set (words bs) k v) (omega arith))

module _ (bs : List ℕ) where
  abbrev R : Records Numbers
  R = record_in bs

  has : 0 < length R.list
  unfolding record_in
  has = omega (arith, records.list_length shape whole bs)

  again :
      (n : Numbers) (g : Numbers → Numbers) (R₁ R₂ : Records Numbers) → R₁ ≡ set_at 0 n R → R₂ ≡ set_at 0 (g (at shape R₁ 0)) R₁ → R₂ ≡ set_at 0 (g n) R
  again = records.again shape whole 0 R has

  pub write_parts :
      (bs' : List ℕ) (depth held opened handed ended : ℕ) (R₁ R₂ R₃ R₄ : Records Numbers) → R₁ ≡ put_at shape 0 0 depth R → R₂ ≡ put_at shape 0 1 held R₁ →
      R₃ ≡ put_at shape 0 2 opened R₂ → R₄ ≡ put_at shape 0 3 handed R₃ → record_in bs' ≡ put_at shape 0 4 ended R₄ →
      numbers_in bs' ≡ numbers_of depth held opened handed ended (numbers_in bs).stopped
  unfolding put_at numbers_in
  write_parts bs' depth held opened handed ended R₁ R₂ R₃ R₄ e₁ e₂ e₃ e₄ e₅ =
      let s₂ = again _ (with_field shape 1 held) R₁ R₂ e₁ e₂ in
      let s₃ = again _ (with_field shape 2 opened) R₂ R₃ s₂ e₃ in
      let s₄ = again _ (with_field shape 3 handed) R₃ R₄ s₃ e₄ in
      ap (λ X. at shape X 0) (again _ (with_field shape 4 ended) R₄ (record_in bs') s₄ e₅)
      ∙ get_or-set_same R.list 0 _ (blank shape) has
      ∙ (unfold when in refl)

  pub stop_part : (bs' : List ℕ) (v : ℕ) → record_in bs' ≡ put_at shape 0 5 v R → numbers_in bs' ≡ with_stop v (numbers_in bs)
  unfolding put_at numbers_in
  stop_part bs' v e = ap (λ X. at shape X 0) e ∙ get_or-set_same R.list 0 _ (blank shape) has ∙ (unfold when in refl)

-- one record of fields alone is its numbers
only : (bs : List ℕ) → record_in bs ≡ record { list = numbers_in bs ∷ []; spare = [] ∷ [] }
unfolding record_in numbers_in records_in rows
only bs = refl

pub numbers_same :
    (bs cs : List ℕ) → length bs ≡ numbers_room → length cs ≡ numbers_room → Bytes bs → Bytes cs → numbers_in bs ≡ numbers_in cs → bs ≡ cs
unfolding numbers_room
numbers_same bs cs lb lc hb hc e =
    records.records_same shape whole bs cs lb lc hb hc
    (unfold record_in in (only bs ∙ ap (λ (n : Numbers). record { list = n ∷ []; spare = [] ∷ [] }) e ∙ sym (only cs)))
