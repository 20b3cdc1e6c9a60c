-- A number read from what is kept of a query, and what the writes of `lay` and `pack` come to together.
--
--   steps_is, size_is, stars_is, hung_is      a number read is a set of steps, how many steps there are, the stars, or what hangs on a step
--   all_some, all_is, all_small      the set of all steps, as a shifted 1 less 1
--   kept_size           at most 32 steps are kept;  asked_size: so many for the name tests;  room_is: how many bytes they take
--   Written, written_none, written_as, written_all, six_written      numbers written one after the other
--   calls_none, calls_put, calls_all      numbers that calls answer, written one after the other: before the first, one more, after the last
--   rows_of_calls            where the calls answer the numbers of a function
--   lay_parts, pack_is  all writes of `lay` and `pack`
--
-- Assumes nothing.
use Rattle.std.specs.Prelude.{ℕ, zero, suc, ◌+◌, ◌-◌, ◌*◌, ◌%◌, ◌^◌, ◌≤◌, ◌<◌, ◌≡◌, true, List, [], ◌∷◌, ◌++◌, length, get_or, replicate}
use Rattle.std.proofs.Common.{lt_of_lt_of_le, arith, ◌∙◌, subst, pow_pos, pow_mono}
use Rattle.std.proofs.Math.Decide.{dec_lt}
use Rattle.std.proofs.Math.Path.{refl, sym, ap, ap₂}
use Rattle.std.proofs.Math.ListN.{set}
use Rattle.std.proofs.Math.Seq.{sets}
use Rattle.plan.specs.declared.Plan as struct
use Rattle.plan_bytes.specs.declared.Set.{Set}
use Rattle.plan_bytes.specs.declared.Set.TheVariants.{Deep, Main, Plain, First}
use Rattle.sets.specs.Set.{member, meet, mask_of}
use Rattle.sets.proofs.Set.Of.{mask_of_under, mask_of_all, mask_of_cut}
use Rattle.sets.proofs.Collect.{one_shift, then, then_under, then_here}
use Rattle.plan.specs.Asked.{test_of}
use Rattle.plan.specs.Planned.{size_of}
use Rattle.words.specs.Words.{words, bytes_of, Bytes}
use Rattle.words.specs.Words.Laws.{bytes_words}
use Rattle.words.specs.Rows.{rows, rows_length, rows_at, rows_same}
use Rattle.plan_bytes.specs.Kept.{plan_room, size_in, asking_in, kept_in, set_place, set_of}
use Rattle.plan_bytes.specs.Kept.{slot, pair, four, RowsOfCalls, slots, pairs, fours, packed_over, packed}

pub steps_is : (bs : List ℕ) (which : Set) (r : ℕ) → r ≡ get_or (words bs) (set_place which) 0 → r ≡ set_of which (kept_in bs)
unfolding kept_in
steps_is bs Deep r e = e
steps_is bs Main r e = e
steps_is bs Plain r e = e
steps_is bs First r e = e

tests_length : (bs : List ℕ) → length (kept_in bs).tests ≡ size_in bs
unfolding kept_in
tests_length bs = rows_length (size_in bs) (test_of (asking_in bs))

pub kept_size : (bs : List ℕ) → length (kept_in bs).tests ≤ 32
kept_size bs = omega (arith, tests_length bs)

pub size_is : (bs : List ℕ) (n r : ℕ) → n ≡ get_or (words bs) 0 0 → r ≡ size_of n → (r ≡ length (kept_in bs).tests) × (r ≤ 32)
size_is bs n r e s = (s ∙ ap size_of e ∙ sym (tests_length bs), omega arith)

pub asked_size : (bs : List ℕ) → length (kept_in bs).tests ≡ (asking_in bs).size
unfolding asking_in
asked_size bs = tests_length bs

module _ (size : ℕ) (h : size ≤ 32) where
  pub all_some : 1 ≤ (1 * 2 ^ size) % 2 ^ 64
  all_some = subst (λ x. 1 ≤ x) (sym (one_shift 64 size (omega arith))) (pow_pos size)

  pub all_is : (1 * 2 ^ size) % 2 ^ 64 - 1 ≡ mask_of size (λ t. true)
  all_is = ap (λ x. x - 1) (one_shift 64 size (omega arith)) ∙ sym (mask_of_all size)

  pub all_small : (1 * 2 ^ size) % 2 ^ 64 - 1 < 4294967296
  all_small = subst (λ x. x < 4294967296) (sym all_is) (lt_of_lt_of_le (mask_of_under size _) (pow_mono {j = 32} h))

pub stars_is :
    (bs : List ℕ) (size all r : ℕ) → size ≡ length (kept_in bs).tests → all ≡ mask_of size (λ t. true) → r ≡ meet (get_or (words bs) 5 0) all →
    r ≡ mask_of (asking_in bs).size (member (asking_in bs).stars)
unfolding asking_in
stars_is bs size all r es ea e =
    e ∙ ap (meet (get_or (words bs) 5 0)) (ea ∙ ap (λ n. mask_of n (λ t. true)) (es ∙ tests_length bs)) ∙ mask_of_cut (size_in bs) (get_or (words bs) 5 0)

pub hung_is :
    (bs : List ℕ) (place r : ℕ) → place < length (kept_in bs).tests → r ≡ get_or (words bs) (40 + place) 0 → r ≡ get_or (kept_in bs).hung place 0
unfolding kept_in
hung_is bs place r h e =
    e ∙ sym (rows_at (size_in bs) (λ t. get_or (words bs) (40 + t) 0) 0 place (subst (λ n. place < n) (tests_length bs) h))

-- a table written row by row

rows_snoc : (n : ℕ) (g : ℕ → ℕ) → rows (suc n) g ≡ rows n g ++ (g n ∷ [])
unfolding rows
rows_snoc zero g = refl
rows_snoc (suc n) g = ap (λ l. g zero ∷ l) (rows_snoc n (λ i. g (suc i)))

sets_snoc : (l : List ℕ) (i : ℕ) (vs : List ℕ) (v : ℕ) → sets l i (vs ++ (v ∷ [])) ≡ set (sets l i vs) (i + length vs) v
sets_snoc l i [] v = ap (λ j. set l j v) (omega arith)
sets_snoc l i (x ∷ vs) v = sets_snoc (set l i x) (suc i) vs v ∙ ap (λ j. set (sets (set l i x) (suc i) vs) j v) (omega arith)

unfoldable pub Written : ℕ → (ℕ → ℕ) → ℕ → List ℕ → List ℕ → Type 0
Written at g i ws₀ ws = ws ≡ sets ws₀ at (rows i g)

module _ (at : ℕ) (g : ℕ → ℕ) where
  pub written_none : (ws : List ℕ) → Written at g 0 ws ws
  unfolding rows Written
  written_none ws = refl

  pub written_as : (i v : ℕ) (ws₀ ws ws' : List ℕ) → Written at g i ws₀ ws → v ≡ g i → ws' ≡ set ws (at + i) v → Written at g (i + 1) ws₀ ws'
  unfolding Written
  written_as i v ws₀ ws ws' e is n =
      n
      ∙ ap (set ws (at + i)) is
      ∙ ap₂ (λ l j. set l (at + j) (g i)) e (sym (rows_length i g))
      ∙ sym (sets_snoc ws₀ at (rows i g) (g i))
      ∙ ap (sets ws₀ at) (sym (rows_snoc i g) ∙ ap (λ k. rows k g) (omega arith))

  pub written_all : (n i : ℕ) (ws₀ ws : List ℕ) → i ≤ n → n ≤ i → Written at g i ws₀ ws → ws ≡ sets ws₀ at (rows n g)
  unfolding Written
  written_all n i ws₀ ws h l e = e ∙ ap (λ k. sets ws₀ at (rows k g)) (omega arith)

pub six_written :
    (ws ws₁ ws₂ ws₃ ws₄ ws₅ ws₆ : List ℕ) (a b c d e f : ℕ) → ws₁ ≡ set ws 0 a → ws₂ ≡ set ws₁ 1 b → ws₃ ≡ set ws₂ 2 c → ws₄ ≡ set ws₃ 3 d →
    ws₅ ≡ set ws₄ 4 e → ws₆ ≡ set ws₅ 5 f → ws₆ ≡ sets ws 0 (a ∷ b ∷ c ∷ d ∷ e ∷ f ∷ [])
six_written ws ws₁ ws₂ ws₃ ws₄ ws₅ ws₆ a b c d e f e₁ e₂ e₃ e₄ e₅ e₆ =
    e₆
    ∙ ap (λ l. set l 5 f)
    (e₅ ∙ ap (λ l. set l 4 e) (e₄ ∙ ap (λ l. set l 3 d) (e₃ ∙ ap (λ l. set l 2 c) (e₂ ∙ ap (λ l. set l 1 b) e₁))))

-- the rows that calls answer

pub calls_none : (R : ℕ → ℕ → Type 0) (at : ℕ) (ws : List ℕ) → RowsOfCalls R at 0 ws ws
unfolding rows
calls_none R at ws = record { number = λ i. 0; written = refl; answered = λ i l. absurd (omega arith) }

pub calls_put :
    {R : ℕ → ℕ → Type 0} {at i v : ℕ} {ws₀ ws ws' : List ℕ} → RowsOfCalls R at i ws₀ ws → R i v → ws' ≡ set ws (at + i) v → RowsOfCalls R at (i + 1) ws₀ ws'
calls_put {R} {at} {i} {v} {ws₀} {ws} {ws'} old here e =
    record {
      number = g;
      written =
          e
          ∙ ap₂ (λ l j. set l (at + j) v) (old.written ∙ ap (sets ws₀ at) same) (sym (rows_length i g))
          ∙ sym (sets_snoc ws₀ at (rows i g) v)
          ∙ ap (λ x. sets ws₀ at (rows i g ++ (x ∷ []))) (sym (then_here old.number i v))
          ∙ ap (sets ws₀ at) (sym (rows_snoc i g) ∙ ap (λ k. rows k g) (omega arith));
      answered = λ k l. go k l (dec_lt k i);
    }
  where
    g : ℕ → ℕ
    g = then old.number i v

    same : rows i old.number ≡ rows i g
    same = rows_same i old.number g (λ k l. sym (then_under old.number i v k l))

    go : (k : ℕ) → k < i + 1 → Dec (k < i) → R k (g k)
    go k u (yes l) = subst (R k) (sym (then_under old.number i v k l)) (old.answered k l)
    go k u (no n) =
        let here_too : i ≡ k = omega arith in
        subst (λ x. R x (g x)) here_too (subst (R i) (sym (then_here old.number i v)) here)

pub calls_all : {R : ℕ → ℕ → Type 0} {at i : ℕ} {ws ws' : List ℕ} (n : ℕ) → RowsOfCalls R at i ws ws' → i ≡ n → RowsOfCalls R at n ws ws'
calls_all {R} {at} {i} {ws} {ws'} n all e = subst (λ k. RowsOfCalls R at k ws ws') e all

-- where R allows one number alone at each place
pub rows_of_calls :
    {R : ℕ → ℕ → Type 0} {at n : ℕ} {ws ws' : List ℕ} (g : ℕ → ℕ) → RowsOfCalls R at n ws ws' → ((i v : ℕ) → i < n → R i v → v ≡ g i) →
    ws' ≡ sets ws at (rows n g)
rows_of_calls {R} {at} {n} {ws} g all e = all.written ∙ ap (sets ws at) (rows_same n all.number g (λ i l. e i (all.number i) l (all.answered i l)))

pub room_is : plan_room ≡ 288
unfolding plan_room
room_is = refl

pub lay_parts :
    (p : struct.Plan) (bs₀ bs ws₁ ws₂ ws₃ : List ℕ) (size : ℕ) → length bs ≡ plan_room → Bytes bs → size ≡ size_of p.size →
    ws₁ ≡ sets (words bs₀) 0 (rows 6 (slot (size ∷ p.deep ∷ p.main ∷ p.plain ∷ p.first ∷ p.stars ∷ []))) → ws₂ ≡ sets ws₁ 8 (rows 16 (pair p.names)) →
    ws₃ ≡ sets ws₂ 24 (rows 16 (four p.buckets)) → words bs ≡ sets ws₃ 40 (rows 32 (slot p.hung)) → bs ≡ bytes_of (packed_over p (words bs₀))
unfolding plan_room packed_over rows slots pairs fours
lay_parts p bs₀ bs ws₁ ws₂ ws₃ size long h es e₁ e₂ e₃ e₄ =
    sym (bytes_words 72 bs long h)
    ∙ ap bytes_of
    (e₄
    ∙ ap (λ l. sets l 40 (slots p.hung))
    (e₃
    ∙ ap (λ l. sets l 24 (fours p.buckets))
    (e₂
    ∙ ap (λ l. sets l 8 (pairs p.names))
    (e₁ ∙ ap (λ n. sets (words bs₀) 0 (n ∷ p.deep ∷ p.main ∷ p.plain ∷ p.first ∷ p.stars ∷ [])) es))))

pub pack_is : (p : struct.Plan) (bs : List ℕ) → bs ≡ bytes_of (packed_over p (words (replicate 288 0))) → bs ≡ bytes_of (packed p)
unfolding packed
pack_is p bs e = e ∙ ap (λ n. bytes_of (packed_over p (words (replicate n 0)))) (sym room_is)
