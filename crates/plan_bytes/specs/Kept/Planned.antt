-- What a session keeps of its query's bytes is the plan of the query.
--
--   Small v           v is a number of 4 bytes;  Short v: of 2 bytes
--   kept_planned      the plan that is made of bytes, packed and read again, is that of the steps that are planned
--   kept_admitted     and so, of an admitted query's bytes, that of the query that they mean
--
-- Assumes that the query is given as bytes.
use Rattle.std.specs.Prelude.{ℕ, zero, suc, ◌+◌, ◌-◌, ◌*◌, ◌≤◌, ◌<◌, ◌≡◌, List, [], ◌∷◌, map, length, get_or, set, drop, replicate}
use Rattle.std.proofs.Math.Nat.{lt_of_lt_of_le, min-le_right}
use Rattle.std.proofs.Common.{arith, ap, ◌∙◌, pow_mono, get_or-take, get_or-drop}
use Rattle.std.proofs.Math.Path.{sym, subst}
use Rattle.std.proofs.lemmas.List.Edits.{sets}
use Rattle.meaning.specs.Query.{Query, Steps, Numbered}
use Rattle.query.specs.Rules.{most_steps, step_bytes, steps, step_of}
use Rattle.query.specs.Answer.{admitted, answer_to}
use Rattle.query.specs.Decode.{Bytes, decode_step, decode_from, decode}
use Rattle.query.proofs.Decode.Laws.{from_length, meant}
use Rattle.sets.proofs.Set.Of.{mask_of_under}
use Rattle.plan.specs.Every.{Every, e_nil, e_cons, every_all, every_append}
use Rattle.plan.specs.Order.{order, mask}
use Rattle.plan.specs.Places.{numbered}
use Rattle.plan.proofs.Places.Laws.{order_length, every_order}
use Rattle.plan.proofs.Places.Plan.{first_order}
use Rattle.plan.specs.Plan.{Plan, plan}
use Rattle.plan.proofs.Masks.{plan_size}
use Rattle.plan.specs.Asked.{stars_of}
use Rattle.plan.specs.Planned.{size_of, planned, zeros, filled, bucket_count, columns, plan_of}
use Rattle.plan.proofs.Planned.Laws.{planned_all, plan_hung}
use Rattle.words.specs.Words.{words, bytes_of}
use Rattle.words.specs.Rows.{rows}
use Rattle.plan_bytes.specs.Kept.{plan_room, kept_in, pair, four, slots, pairs, fours, packed_over, packed}
use Rattle.plan_bytes.specs.Kept.Packed.{buckets_small, kept_packed}

abbrev Small : ℕ → Type 0
Small v = v < 4294967296

abbrev Short : ℕ → Type 0
Short v = v < 65536

-- lists of small numbers

set_small : {l : List ℕ} {v : ℕ} → Every Small l → Small v → (i : ℕ) → Every Small (set l i v)
set_small e_nil k i = e_nil
set_small (e_cons h t) k zero = e_cons k t
set_small (e_cons h t) k (suc i) = e_cons h (set_small t k i)

sets_small : {l vs : List ℕ} → Every Small l → Every Small vs → (i : ℕ) → Every Small (sets l i vs)
sets_small h e_nil i = h
sets_small h (e_cons k t) i = sets_small (set_small h k i) t (suc i)

rows_small : (n : ℕ) (g : ℕ → ℕ) → ((i : ℕ) → i < n → Small (g i)) → Every Small (rows n g)
unfolding rows
rows_small zero g h = e_nil
rows_small (suc n) g h = e_cons (h zero (omega arith)) (rows_small n (λ i. g (suc i)) (λ i l. h (suc i) (omega arith)))

-- lists of numbers under b

module _ (b : ℕ) (some : 0 < b) where
  abbrev Under : ℕ → Type 0
  Under v = v < b

  at_under : {l : List ℕ} → Every Under l → (i : ℕ) → Under (get_or l i 0)
  at_under e_nil i = some
  at_under (e_cons h t) zero = h
  at_under (e_cons h t) (suc i) = at_under t i

  zeros_under : (n : ℕ) → Every Under (zeros n)
  zeros_under zero = e_nil
  zeros_under (suc n) = e_cons {x = 0} some (zeros_under n)

  filled_under : {xs : List ℕ} → Every Under xs → Every Under (filled xs)
  filled_under {xs} h = every_append h (zeros_under (most_steps - length xs))

  map_under : {f : Numbered → ℕ} {ps : List Numbered} → Every (λ p. Under (f p)) ps → Every Under (map f ps)
  map_under e_nil = e_nil
  map_under (e_cons h t) = e_cons h (map_under t)

slots_small : {l : List ℕ} → Every Small l → Every Small (slots l)
unfolding slots
slots_small {l} h = rows_small most_steps (λ t. get_or l t 0) (λ t k. at_under 4294967296 (omega arith) h t)

pairs_small : {l : List ℕ} → Every Short l → Every Small (pairs l)
unfolding pairs
pairs_small {l} h =
    rows_small 16 (pair l)
    (λ i k. omega (arith, at_under 65536 (omega arith) h (2 * i), at_under 65536 (omega arith) h (2 * i + 1)))

fours_small : (l : List ℕ) → ((s : ℕ) → s < bucket_count → get_or l s 0 < 256) → Every Small (fours l)
unfolding fours
fours_small l h =
    rows_small 16 (four l)
    (λ i k. omega (arith, h (4 * i) (omega arith), h (4 * i + 1) (omega arith), h (4 * i + 2) (omega arith), h (4 * i + 3) (omega arith)))

blank_small : Every Small (words (replicate plan_room 0))
unfolding words plan_room
blank_small = zeros_under 4294967296 (omega arith) 72

-- the numbers of a plan

record SmallPlan (P : Plan) : Type 0 where
  pub tests : Every Short P.tests
  pub hung : Every Small P.hung
  pub deep : Small P.deep
  pub main : Small P.main
  pub plain : Small P.plain
  pub first : Small P.first

names_short : (P : Plan) → SmallPlan P → Every Short (columns P).names
unfolding columns
names_short P s = filled_under 65536 (omega arith) s.tests

packed_small : (P : Plan) → length P.tests ≤ most_steps → SmallPlan P → Every Small (packed (columns P))
unfolding packed packed_over columns
packed_small P few s =
    sets_small
    (sets_small
    (sets_small (sets_small blank_small masks 0) (pairs_small (names_short P s)) 8)
    (fours_small (columns P).buckets (buckets_small P few)) 24)
    (slots_small (filled_under 4294967296 (omega arith) s.hung)) 40
  where
    size : Small (size_of (length P.tests))
    size = omega (arith, min-le_right (length P.tests) most_steps)

    stars : Small (stars_of P.tests)
    stars = lt_of_lt_of_le (mask_of_under (length P.tests) _) (pow_mono {j = 32} few)

    masks : Every Small (size_of (length P.tests) ∷ P.deep ∷ P.main ∷ P.plain ∷ P.first ∷ stars_of P.tests ∷ [])
    masks = e_cons size (e_cons s.deep (e_cons s.main (e_cons s.plain (e_cons s.first (e_cons stars e_nil)))))

-- a query of 32 steps at most

module _ (Q : Query) (few : length Q ≤ most_steps) where
  mask_small : (A : Steps) → Small (mask (order Q) A)
  unfolding mask
  mask_small A =
      lt_of_lt_of_le (mask_of_under (length (order Q)) _) (pow_mono {j = 32} (subst (λ n. n ≤ 32) (sym (order_length Q)) few))

  plan_small : Every (λ p. Short p.step.name) (numbered Q 1) → SmallPlan (plan Q)
  unfolding plan
  plan_small names =
      record {
        tests = map_under 65536 (omega arith) (every_order Q names);
        hung = map_under 4294967296 (omega arith) (every_all (λ p. mask_small _) (order Q));
        deep = mask_small _;
        main = mask_small _;
        plain = mask_small _;
        first = subst Small (first_order Q) (mask_small _);
      }

-- the names that bytes mean

step_bytes_lem : (q : List ℕ) → Bytes q → (s k : ℕ) → k < step_bytes → get_or (step_of q s) k 0 < 256
step_bytes_lem q bytes s k h =
    subst (λ n. n < 256) (sym (get_or-take step_bytes (drop (step_bytes * s) q) k 0 h ∙ get_or-drop (step_bytes * s) q k 0)) (bytes (step_bytes * s + k))

name_short : (q : List ℕ) → Bytes q → (s : ℕ) → Short (decode_step (step_of q s)).name
unfolding decode_step
name_short q bytes s = omega (arith, step_bytes_lem q bytes s 4 (omega arith), step_bytes_lem q bytes s 5 (omega arith))

decoded_short : (q : List ℕ) → Bytes q → (n s i : ℕ) → Every (λ p. Short p.step.name) (numbered (decode_from q n s) i)
unfolding decode_from numbered
decoded_short q bytes zero s i = e_nil
decoded_short q bytes (suc n) s i = e_cons (name_short q bytes s) (decoded_short q bytes n (suc s) (suc i))

module _ (q : List ℕ) (bytes : Bytes q) where
  few : length (planned q) ≤ most_steps
  few = omega (arith, from_length q (size_of (steps q)) 0, min-le_right (steps q) most_steps)

  steps_few : length (plan (planned q)).tests ≤ most_steps
  steps_few = subst (λ n. n ≤ 32) (sym (plan_size (planned q))) few

  small : SmallPlan (plan (planned q))
  small = plan_small (planned q) few (decoded_short q bytes (size_of (steps q)) 0 1)

  pub kept_planned : kept_in (bytes_of (packed (plan_of q))) ≡ plan (planned q)
  unfolding plan_of
  kept_planned =
      kept_packed (plan (planned q)) steps_few (plan_hung (planned q) ∙ sym (plan_size (planned q)))
      (at_under 65536 (omega arith) (names_short (plan (planned q)) small))
      (at_under 4294967296 (omega arith) (packed_small (plan (planned q)) steps_few small))

  pub kept_admitted : answer_to q ≡ admitted → kept_in (bytes_of (packed (plan_of q))) ≡ plan (decode q)
  kept_admitted given = kept_planned ∙ ap plan (planned_all q (meant q bytes given).most)
