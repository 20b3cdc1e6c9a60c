-- What the parts of a plan come to: read through the order of the first n steps of the bytes q, they are the plan of these steps.
--
--   made_names, made_hung         the slots
--   made_deep, made_main, made_first      sets that a test of each step makes
--   made_plain                    the set that the slots of `made_hung` make
--   made_stars, made_buckets      the stars among the steps, and the buckets of their names
--   made                          the plan that is put together of them
--
-- Assumes nothing.
use Prim.Native.Nat.{ℕ, ◌+◌, ◌-◌}
use native.Mathlib.Omega.{arith}
use mathlib.Core.Path.{◌≡◌, sym, ap, ap₂, ◌∙◌}
use mathlib.Core.Bool.{Bool, not}
use mathlib.Core.List.{List, map}
use lib.Dec.{eqb}
use lib.ListN.{length, get_or, take, length-map, get_or-append}
use lib.Seq.{take_at}
use Rattle.meaning.specs.Name.{star}
use Rattle.meaning.specs.Query.{Step, Query, Steps, Numbered, hangs, goes_deep, all_step}
use Rattle.meaning.specs.Selection.{start}
use Rattle.sets.specs.Set.{mask_of}
use Rattle.sets.specs.Table.{table_of}
use Rattle.sets.proofs.Set.Of.{mask_of_agree}
use Rattle.query.specs.Rules.{most_steps, steps}
use Rattle.query.specs.Decode.{decode_from}
use Rattle.plan.specs.Every.{every_map, every_all}
use Rattle.plan.specs.Order.{order, mask}
use Rattle.plan.proofs.Places.Laws.{order_length}
use Rattle.plan.proofs.Places.Plan.{none_hangs, first_order}
use Rattle.plan.specs.Plan.{plan}
use Rattle.plan.specs.Asked.{stars_of, bucket}
use Rattle.plan.specs.Planned.{step_at, size_of, starts, before, zeros, filled, padded, order_of, bucket_count, several_steps, columns, plan_of}
use Rattle.query.proofs.Decode.Laws.{from_length}
use Rattle.plan.proofs.Planned.Steps.{Whose, order_whose, read_table, read_mask}
use Rattle.plan.specs.declared.Plan.{Plan}

module _ (q : List ℕ) (n : ℕ) where
  abbrev Q : Query
  Q = decode_from q n 0

  long : length (order Q) ≡ n
  long = order_length Q ∙ from_length q n 0

  abbrev slot : ℕ → ℕ
  slot t = get_or (order_of q n) t 0

  made_set :
      (test : ℕ → Bool) (A : Steps) → ((p : Numbered) → Whose q p → test (before p) ≡ A p.step p.number) →
      mask_of n (λ t. test (slot t)) ≡ mask (order Q) A
  unfolding order_of
  made_set test A e =
      ap (λ k. mask_of k (λ t. test (slot t))) (sym long)
      ∙ read_mask before (zeros (most_steps - length (map before (order Q)))) test A (every_map e (order_whose q n))

  made_slots :
      (f : ℕ → ℕ) (g : Numbered → ℕ) → ((p : Numbered) → Whose q p → f (before p) ≡ g p) →
      padded n (λ t. f (slot t)) ≡ filled (map g (order Q))
  unfolding order_of padded
  made_slots f g e =
      ap (λ k. filled (table_of k (λ t. f (slot t)))) (sym long)
      ∙ ap filled (read_table before (zeros (most_steps - length (map before (order Q)))) f g (every_map e (order_whose q n)))

  pub made_names : padded n (λ t. (step_at q (slot t)).name) ≡ filled (plan Q).tests
  unfolding plan
  made_names = made_slots (λ s. (step_at q s).name) (λ p. p.step.name) (λ p w. ap (λ st. st.name) (sym w.step))

  made_hanging : (p : Numbered) → Whose q p → mask_of n (λ u. hangs (step_at q (slot u)) (before p + 1)) ≡ mask (order Q) (λ t i. hangs t p.number)
  made_hanging p w =
      made_set (λ u. hangs (step_at q u) (before p + 1)) (λ t i. hangs t p.number) (λ r v. ap₂ hangs (sym v.step) (sym w.number))

  pub made_hung : padded n (λ t. mask_of n (λ u. hangs (step_at q (slot u)) (slot t + 1))) ≡ filled (plan Q).hung
  unfolding plan
  made_hung = made_slots (λ s. mask_of n (λ u. hangs (step_at q (slot u)) (s + 1))) _ made_hanging

  made_test : (test : Step → Bool) → mask_of n (λ t. test (step_at q (slot t))) ≡ mask (order Q) (λ st i. test st)
  made_test test = made_set (λ s. test (step_at q s)) (λ st i. test st) (λ p w. ap test (sym w.step))

  pub made_deep : mask_of n (λ t. goes_deep (step_at q (slot t)).axis) ≡ (plan Q).deep
  unfolding plan
  made_deep = made_test (λ st. goes_deep st.axis)

  pub made_main : mask_of n (λ t. (step_at q (slot t)).main) ≡ (plan Q).main
  unfolding plan
  made_main = made_test (λ st. st.main)

  pub made_first : mask_of n (λ t. starts (step_at q (slot t))) ≡ (plan Q).first
  unfolding plan start
  made_first = made_test starts ∙ first_order Q

  pub made_plain : mask_of n (λ t. eqb (get_or (filled (plan Q).hung) t 0) 0) ≡ (plan Q).plain
  unfolding plan
  made_plain =
      ap (λ k. mask_of k (λ t. eqb (get_or (filled (plan Q).hung) t 0) 0)) (sym long)
      ∙ read_mask (λ p. mask (order Q) (λ t i. hangs t p.number)) (zeros (most_steps - length (plan Q).hung)) (λ m. eqb m 0)
      (λ st s. all_step Q 1 (λ t i. not (hangs t s))) (every_all (λ p. none_hangs Q p.number) (order Q))

  pub made_stars : mask_of n (λ t. eqb (get_or (filled (plan Q).tests) t 0) star) ≡ stars_of (plan Q).tests
  unfolding plan
  made_stars =
      let T : List ℕ = map (λ p. p.step.name) (order Q) in
      let all : length T ≡ n = length-map (order Q) _ ∙ long in
      mask_of_agree n _ _ (λ t l. ap (λ x. eqb x star) (get_or-append T (zeros (most_steps - length T)) 0 t (omega arith)))
      ∙ ap (λ k. mask_of k (λ t. eqb (get_or T t 0) star)) (sym all)

  -- the first n names are those of the steps
  pub made_buckets :
      (names : List ℕ) → names ≡ filled (plan Q).tests →
      table_of bucket_count (bucket several_steps bucket_count (take n names)) ≡ table_of bucket_count (bucket several_steps bucket_count (plan Q).tests)
  unfolding plan
  made_buckets names e =
      ap (λ T. table_of bucket_count (bucket several_steps bucket_count T))
      (ap (take n) e ∙ take_at (plan Q).tests (zeros (most_steps - length (plan Q).tests)) n (length-map (order Q) _ ∙ long))

same_plan :
    {names names' hung hung' buckets buckets' : List ℕ} {size size' deep deep' main main' plain plain' first first' stars stars' : ℕ} →
    names ≡ names' → hung ≡ hung' → size ≡ size' → deep ≡ deep' → main ≡ main' → plain ≡ plain' → first ≡ first' → stars ≡ stars' →
    buckets ≡ buckets' →
    ◌≡◌ {A = Plan}
    (record { names = names; hung = hung; size = size; deep = deep; main = main; plain = plain; first = first; stars = stars; buckets = buckets })
    (record { names = names'; hung = hung'; size = size'; deep = deep'; main = main'; plain = plain'; first = first'; stars = stars'; buckets = buckets' })
same_plan a b c d e f g h i = cc

pub made :
    (q : List ℕ) {size : ℕ} {slots names hung buckets : List ℕ} {deep main plain first stars : ℕ} → size ≡ size_of (steps q) → slots ≡ order_of q size →
    names ≡ padded size (λ t. (step_at q (get_or slots t 0)).name) →
    hung ≡ padded size (λ t. mask_of size (λ u. hangs (step_at q (get_or slots u 0)) (get_or slots t 0 + 1))) →
    deep ≡ mask_of size (λ t. goes_deep (step_at q (get_or slots t 0)).axis) → main ≡ mask_of size (λ t. (step_at q (get_or slots t 0)).main) →
    plain ≡ mask_of size (λ t. eqb (get_or hung t 0) 0) → first ≡ mask_of size (λ t. starts (step_at q (get_or slots t 0))) →
    stars ≡ mask_of size (λ t. eqb (get_or names t 0) star) →
    buckets ≡ table_of bucket_count (bucket several_steps bucket_count (take size names)) →
    record { names = names; hung = hung; size = size; deep = deep; main = main; plain = plain; first = first; stars = stars; buckets = buckets }
    ≡ plan_of q
unfolding plan_of columns
made q {size} {slots} {names} {hung} e o n h d m p f s b =
    same_plan names_made hangs_made size_made
    (d ∙ set (λ st. goes_deep st.axis) ∙ made_deep q size) (m ∙ set (λ st. st.main) ∙ made_main q size)
    (p ∙ ap (λ h. mask_of size (λ t. eqb (get_or h t 0) 0)) hangs_made ∙ made_plain q size)
    (f ∙ set starts ∙ made_first q size)
    (s ∙ ap (λ ns. mask_of size (λ t. eqb (get_or ns t 0) star)) names_made ∙ made_stars q size)
    (b ∙ made_buckets q size names names_made)
    ∙ ap (λ k. columns (plan (decode_from q k 0))) e
  where
    set :
        (test : Step → Bool) →
        mask_of size (λ t. test (step_at q (get_or slots t 0))) ≡ mask_of size (λ t. test (step_at q (get_or (order_of q size) t 0)))
    set test = ap (λ o. mask_of size (λ t. test (step_at q (get_or o t 0)))) o

    names_made : names ≡ filled (plan (decode_from q size 0)).tests
    names_made = n ∙ ap (λ o. padded size (λ t. (step_at q (get_or o t 0)).name)) o ∙ made_names q size

    hangs_made : hung ≡ filled (plan (decode_from q size 0)).hung
    hangs_made = h ∙ ap (λ o. padded size (λ t. mask_of size (λ u. hangs (step_at q (get_or o u 0)) (get_or o t 0 + 1)))) o ∙ made_hung q size

    size_made : size ≡ length (plan (decode_from q size 0)).tests
    size_made = unfold plan in sym (length-map (order (decode_from q size 0)) _ ∙ long q size)
