-- A plan that was packed is read again.
--
--   buckets_small   what a bucket says is a byte
--   kept_packed     the plan that the bytes of a packed plan stand for is that plan
--
-- Assumes that the plan has at most 32 steps, what hangs on each, names of 2 bytes, and numbers under 2 ^ 32.
use Prim.Native.Nat.{ℕ, zero, suc, ◌+◌, ◌-◌, ◌*◌, ◌/◌, ◌%◌, ◌≤◌, ◌<◌}
use Rattle.std.proofs.Math.Nat.{min-eq_left}
use Rattle.std.proofs.Common.{mod-lt, arith, ap₂, ◌∙◌, subst, get_or-set_same, get_or-set_other}
use Rattle.std.proofs.Math.Path.{◌≡◌, refl, sym, ap}
use mathlib.Core.List.{List, [], ◌∷◌}
use Rattle.std.specs.Prelude.{length, set, replicate}
use Rattle.std.proofs.Math.ListN.{get_or, get_or-append}
use Rattle.std.proofs.lemmas.List.{length-replicate}
use Rattle.std.proofs.lemmas.List.Edits.{sets}
use Rattle.std.proofs.Math.Seq.{length-sets}
use Rattle.query.specs.Rules.{most_steps}
use Rattle.plan.specs.declared.Plan as struct
use Rattle.plan.specs.Plan.{Plan}
use Rattle.sets.specs.Table.{get_d_table_of}
use Rattle.plan.specs.Asked.{stars_of, test_of, bucket, place_by, asking}
use Rattle.plan.proofs.Asked.Laws.{test_same, test_kept, bucket_most}
use Rattle.plan.specs.Planned.{size_of, zeros, filled, bucket_count, several_steps, columns}
use Rattle.words.specs.Words.{words, bytes_of}
use Rattle.words.specs.Words.Laws.{words_length, words_bytes, Spelt, bytes_spelt, first_byte, second_byte, third_byte, fourth_byte}
use Rattle.words.specs.Rows.{rows, rows_length, rows_at, rows_same, is_rows}
use Rattle.plan_bytes.specs.Kept.{
  plan_room,
  few_steps,
  size_in,
  name_in,
  bucket_in,
  asking_in,
  kept_in,
  slot,
  pair,
  four,
  slots,
  pairs,
  fours,
  packed_over,
  packed,
}

-- a run of numbers, read

before_sets : (vs l : List ℕ) (i k : ℕ) → k < i → get_or (sets l i vs) k 0 ≡ get_or l k 0
before_sets [] l i k h = refl
before_sets (v ∷ vs) l i k h = before_sets vs (set l i v) (suc i) k (omega arith) ∙ get_or-set_other l i k v 0 (λ e. absurd (omega arith))

in_sets : (vs l : List ℕ) (i j : ℕ) → j < length vs → i + length vs ≤ length l → get_or (sets l i vs) (i + j) 0 ≡ get_or vs j 0
in_sets [] l i j h k = absurd (omega arith)
in_sets (v ∷ vs) l i zero h k =
    let z : i + 0 ≡ i = omega arith in
    ap (λ n. get_or (sets (set l i v) (suc i) vs) n 0) z ∙ before_sets vs (set l i v) (suc i) i (omega arith) ∙ get_or-set_same l i v 0 (omega arith)
in_sets (v ∷ vs) l i (suc j) h k =
    let e : i + suc j ≡ suc i + j = omega arith in
    ap (λ n. get_or (sets (set l i v) (suc i) vs) n 0) e
    ∙ in_sets vs (set l i v) (suc i) j (omega arith) (omega (arith, length-sets l i (v ∷ [])))

-- rows, read

at_row : (n : ℕ) (g : ℕ → ℕ) (l : List ℕ) (i j : ℕ) → j < n → i + n ≤ length l → get_or (sets l i (rows n g)) (i + j) 0 ≡ g j
at_row n g l i j h k =
    in_sets (rows n g) l i j (omega (arith, rows_length n g)) (omega (arith, rows_length n g)) ∙ rows_at n g 0 j h

-- numbers of 2 bytes in one of 4

low_half : (a b : ℕ) → a < 65536 → (a + 65536 * b) % 256 + 256 * ((a + 65536 * b) / 256 % 256) ≡ a
low_half a b h = omega arith

high_half : (a b : ℕ) → a < 65536 → b < 65536 → (a + 65536 * b) / 256 / 256 % 256 + 256 * ((a + 65536 * b) / 256 / 256 / 256 % 256) ≡ b
high_half a b h k = omega arith

module _ (p : struct.Plan) where
  abbrev blank : List ℕ
  blank = words (replicate plan_room 0)

  blank_length : length blank ≡ 72
  unfolding plan_room
  blank_length = words_length 72 (replicate plan_room 0) (length-replicate {A = ℕ} plan_room 0)

  abbrev masks : List ℕ
  masks = size_of p.size ∷ p.deep ∷ p.main ∷ p.plain ∷ p.first ∷ p.stars ∷ []

  abbrev with_masks : List ℕ
  with_masks = sets blank 0 masks

  abbrev with_names : List ℕ
  with_names = sets with_masks 8 (pairs p.names)

  abbrev with_buckets : List ℕ
  with_buckets = sets with_names 24 (fours p.buckets)

  masks_length : length with_masks ≡ 72
  masks_length = length-sets blank 0 masks ∙ blank_length

  names_length : length with_names ≡ 72
  names_length = length-sets with_masks 8 (pairs p.names) ∙ masks_length

  buckets_length : length with_buckets ≡ 72
  buckets_length = length-sets with_names 24 (fours p.buckets) ∙ names_length

  before_hung : (k : ℕ) → k < 40 → get_or (packed p) k 0 ≡ get_or with_buckets k 0
  unfolding packed packed_over
  before_hung k h = before_sets (slots p.hung) with_buckets 40 k h

  mask_at : (j : ℕ) → j < 6 → get_or (packed p) j 0 ≡ get_or masks j 0
  mask_at j h =
      let z : j ≡ 0 + j = omega arith in
      before_hung j (omega arith) ∙ before_sets (fours p.buckets) with_names 24 j (omega arith)
      ∙ before_sets (pairs p.names) with_masks 8 j (omega arith)
      ∙ ap (λ k. get_or with_masks k 0) z ∙ in_sets masks blank 0 j h (omega (arith, blank_length))

  pair_at : (i : ℕ) → i < 16 → get_or (packed p) (8 + i) 0 ≡ pair p.names i
  unfolding pairs
  pair_at i h =
      before_hung (8 + i) (omega arith) ∙ before_sets (fours p.buckets) with_names 24 (8 + i) (omega arith)
      ∙ at_row 16 (pair p.names) with_masks 8 i h (omega (arith, masks_length))

  four_at_lem : (i : ℕ) → i < 16 → get_or (packed p) (24 + i) 0 ≡ four p.buckets i
  unfolding fours
  four_at_lem i h = before_hung (24 + i) (omega arith) ∙ at_row 16 (four p.buckets) with_names 24 i h (omega (arith, names_length))

  hung_at : (t : ℕ) → t < 32 → get_or (packed p) (40 + t) 0 ≡ get_or p.hung t 0
  unfolding packed packed_over slots
  hung_at t h = at_row most_steps (slot p.hung) with_buckets 40 t h (omega (arith, buckets_length))

  abbrev bytes : List ℕ
  bytes = bytes_of (packed p)

  name_at_lem : (t : ℕ) → t < 32 → ((u : ℕ) → get_or p.names u 0 < 65536) → name_in bytes t ≡ get_or p.names t 0
  name_at_lem t h small = go (t % 2) refl
    where
      i : ℕ
      i = t / 2

      spelt : Spelt bytes (4 * (8 + i)) (pair p.names i)
      spelt = subst (Spelt bytes (4 * (8 + i))) (pair_at i (omega arith)) (bytes_spelt (packed p) (8 + i) (4 * (8 + i)) refl)

      at : (k n : ℕ) → k ≡ n → get_or bytes k 0 ≡ get_or bytes n 0
      at k n e = ap (λ j. get_or bytes j 0) e

      go : (d : ℕ) → t % 2 ≡ d → name_in bytes t ≡ get_or p.names t 0
      go zero e =
          let even : 2 * i ≡ t = omega arith in
          ap₂ (λ a b. a + 256 * b) (at (32 + 2 * t) (4 * (8 + i)) (omega arith) ∙ spelt.first)
          (at (33 + 2 * t) (suc (4 * (8 + i))) (omega arith) ∙ spelt.second)
          ∙ low_half (get_or p.names (2 * i) 0) (get_or p.names (2 * i + 1) 0) (small (2 * i)) ∙ ap (λ u. get_or p.names u 0) even
      go (suc zero) e =
          let odd : 2 * i + 1 ≡ t = omega arith in
          ap₂ (λ a b. a + 256 * b) (at (32 + 2 * t) (suc (suc (4 * (8 + i)))) (omega arith) ∙ spelt.third)
          (at (33 + 2 * t) (suc (suc (suc (4 * (8 + i))))) (omega arith) ∙ spelt.fourth)
          ∙ high_half (get_or p.names (2 * i) 0) (get_or p.names (2 * i + 1) 0) (small (2 * i)) (small (2 * i + 1))
          ∙ ap (λ u. get_or p.names u 0) odd
      go (suc (suc d)) e = absurd (omega arith)

  bucket_at : (s : ℕ) → s < bucket_count → ((u : ℕ) → u < bucket_count → get_or p.buckets u 0 < 256) → bucket_in bytes s ≡ get_or p.buckets s 0
  bucket_at s h small = go (s % 4) refl
    where
      i : ℕ
      i = s / 4

      b : ℕ → ℕ
      b u = get_or p.buckets u 0

      spelt : Spelt bytes (4 * (24 + i)) (four p.buckets i)
      spelt = subst (Spelt bytes (4 * (24 + i))) (four_at_lem i (omega arith)) (bytes_spelt (packed p) (24 + i) (4 * (24 + i)) refl)

      at : (n u : ℕ) {v : ℕ} → 96 + s ≡ n → u ≡ s → get_or bytes n 0 ≡ v → v ≡ b u → bucket_in bytes s ≡ b s
      at n u e f q r = ap (λ j. get_or bytes j 0) e ∙ q ∙ r ∙ ap b f

      s₀ : b (4 * i) < 256
      s₀ = small (4 * i) (omega arith)

      s₁ : b (4 * i + 1) < 256
      s₁ = small (4 * i + 1) (omega arith)

      s₂ : b (4 * i + 2) < 256
      s₂ = small (4 * i + 2) (omega arith)

      s₃ : b (4 * i + 3) < 256
      s₃ = small (4 * i + 3) (omega arith)

      go : (d : ℕ) → s % 4 ≡ d → bucket_in bytes s ≡ b s
      go zero e = at (4 * (24 + i)) (4 * i) (omega arith) (omega arith) spelt.first (first_byte _ _ _ _ s₀)
      go (suc zero) e = at (suc (4 * (24 + i))) (4 * i + 1) (omega arith) (omega arith) spelt.second (second_byte _ _ _ _ s₀ s₁)
      go (suc (suc zero)) e =
          at (suc (suc (4 * (24 + i)))) (4 * i + 2) (omega arith) (omega arith) spelt.third (third_byte _ _ _ _ s₀ s₁ s₂)
      go (suc (suc (suc zero))) e =
          at (suc (suc (suc (4 * (24 + i))))) (4 * i + 3) (omega arith) (omega arith) spelt.fourth (fourth_byte _ _ _ _ s₀ s₁ s₂ s₃)
      go (suc (suc (suc (suc d)))) e = absurd (omega arith)

module _ (P : Plan) (few : length P.tests ≤ 32) where
  bucket_is : (s : ℕ) → s < bucket_count → get_or (columns P).buckets s 0 ≡ bucket several_steps bucket_count P.tests s
  unfolding columns
  bucket_is s h = get_d_table_of bucket_count (bucket several_steps bucket_count P.tests) s h

  pub buckets_small : (s : ℕ) → s < bucket_count → get_or (columns P).buckets s 0 < 256
  buckets_small s h = omega (arith, bucket_is s h, bucket_most several_steps bucket_count s (omega arith) P.tests few)

module _ (P : Plan) (few : length P.tests ≤ 32) (both : length P.hung ≡ length P.tests)
    (names : (t : ℕ) → get_or (columns P).names t 0 < 65536) (small : (i : ℕ) → get_or (packed (columns P)) i 0 < 4294967296) where
  abbrev p : struct.Plan
  p = columns P

  -- the numbers are read from the bytes as they were laid
  number_at_lem : (i : ℕ) → get_or (words (bytes p)) i 0 ≡ get_or (packed p) i 0
  number_at_lem i = ap (λ ws. get_or ws i 0) (words_bytes (packed p) small)

  size_is : size_in (bytes p) ≡ length P.tests
  unfolding columns
  size_is = ap size_of (number_at_lem 0 ∙ mask_at p 0 (omega arith)) ∙ ap size_of (min-eq_left few) ∙ min-eq_left few

  set_at : (j : ℕ) → j < 6 → get_or (words (bytes p)) j 0 ≡ get_or (masks p) j 0
  set_at j h = number_at_lem j ∙ mask_at p j h

  column_at : (xs : List ℕ) (t : ℕ) → t < length xs → get_or (filled xs) t 0 ≡ get_or xs t 0
  column_at xs t h = get_or-append xs (zeros (32 - length xs)) 0 t h

  -- the test by which a step is found is its own
  test_is : (t : ℕ) → t < length P.tests → test_of (asking_in (bytes p)) t ≡ get_or P.tests t 0
  unfolding asking_in
  test_is t h =
      test_same (asking_in (bytes p)) (asking few_steps several_steps bucket_count P.tests) t size_is stars name place
      ∙ test_kept few_steps several_steps bucket_count (omega arith) P.tests few t h
    where
      x : ℕ
      x = get_or P.tests t 0

      stars : get_or (words (bytes p)) 5 0 ≡ stars_of P.tests
      stars = unfold columns in set_at 5 (omega arith)

      name : name_in (bytes p) t ≡ x
      name = unfold columns in name_at_lem p t (omega arith) names ∙ column_at P.tests t h

      at : x % bucket_count < bucket_count
      at = mod-lt x (omega arith)

      place :
          place_by few_steps (size_in (bytes p)) (bucket_in (bytes p) (x % bucket_count))
          ≡ place_by few_steps (length P.tests) (bucket several_steps bucket_count P.tests (x % bucket_count))
      place =
          ap₂ (place_by few_steps) size_is (bucket_at p (x % bucket_count) at (buckets_small P few) ∙ bucket_is P few (x % bucket_count) at)

  tests_are : rows (size_in (bytes p)) (test_of (asking_in (bytes p))) ≡ P.tests
  tests_are =
      ap (λ n. rows n (test_of (asking_in (bytes p)))) size_is
      ∙ rows_same (length P.tests) _ (λ t. get_or P.tests t 0) test_is
      ∙ sym (is_rows (length P.tests) (λ t. get_or P.tests t 0) 0 P.tests refl (λ t h. refl))

  hung_are : rows (size_in (bytes p)) (λ t. get_or (words (bytes p)) (40 + t) 0) ≡ P.hung
  unfolding columns
  hung_are =
      ap (λ n. rows n (λ t. get_or (words (bytes p)) (40 + t) 0)) (size_is ∙ sym both)
      ∙ rows_same (length P.hung) _ (λ t. get_or P.hung t 0)
      (λ t h. number_at_lem (40 + t) ∙ hung_at p t (omega arith) ∙ column_at P.hung t h)
      ∙ sym (is_rows (length P.hung) (λ t. get_or P.hung t 0) 0 P.hung refl (λ t h. refl))

  pub kept_packed : kept_in (bytes_of (packed (columns P))) ≡ P
  unfolding kept_in columns
  kept_packed = same tests_are hung_are (set_at 1 (omega arith)) (set_at 2 (omega arith)) (set_at 3 (omega arith)) (set_at 4 (omega arith))
    where
      same :
          {t t' h h' : List ℕ} {a a' b b' c c' d d' : ℕ} → t ≡ t' → h ≡ h' → a ≡ a' → b ≡ b' → c ≡ c' → d ≡ d' →
          ◌≡◌ {A = Plan} (record { tests = t; hung = h; deep = a; main = b; plain = c; first = d })
          (record { tests = t'; hung = h'; deep = a'; main = b'; plain = c'; first = d' })
      same e₁ e₂ e₃ e₄ e₅ e₆ = λ i. record { tests = e₁ i; hung = e₂ i; deep = e₃ i; main = e₄ i; plain = e₅ i; first = e₆ i }
