-- The plan of an admitted query is right.
--
--   none_hangs      no predicate hangs on step s exactly if the set of those that do is empty
--   first_order     the set of the steps that start is one of main-path steps
--   plan_right      the plan of an admitted query is right
--   right_one       one plan is right
--
-- Assumes nothing but, in the end, the rules.
use Rattle.std.specs.Prelude.{ℕ, pred, ◌^◌, ◌<◌, ◌≤◌, ◌≡◌, refl, Bool, true, false, ◌&&◌, List, map, ◌↔◌, T, eqb, ltb, get_or}
use Rattle.std.proofs.Math.Decide.{dec_lt}
use Rattle.std.proofs.Common.{arith, sym, ◌∙◌, pow_pos, ext_get_or, le-ltb}
use Rattle.std.proofs.Math.Path.{ap, subst}
use Rattle.std.proofs.Math.Bool.{not, not-not}
use Rattle.std.proofs.Math.ListN.{length, length-map, length-append, get_or-eq_default}
use Rattle.meaning.specs.Logic.{is_true}
use Rattle.meaning.specs.Query.{Query, Steps, Numbered, hangs, goes_deep, all_step, admits}
use Rattle.meaning.proofs.Query.Laws.{all_intro, all_elim}
use Rattle.meaning.specs.Selection.{start}
use Rattle.sets.specs.Set.{member, one}
use Rattle.sets.proofs.Set.Laws.{member_past, same_members}
use Rattle.sets.proofs.Set.Of.{mask_of_under}
use Rattle.sets.proofs.Set.Order.{bool_iff}
use Rattle.plan.specs.Every.{every_map}
use Rattle.plan.specs.Order.{predicates, back_path, order, mask}
use Rattle.plan.specs.Order.Mask.{member_mask, mask_front, any_mask}
use Rattle.plan.specs.Order.All.{predicates_main, any_order, all_any}
use Rattle.plan.specs.Plan as Of
use Rattle.plan.specs.Plan.{plan}
use Rattle.plan.proofs.Masks.{plan_size, plan_first}
use Rattle.plan.specs.Places.{StandsAt, mains, OrderRight, PlanRight}
use Rattle.plan.proofs.Places.Laws.{stands_some, stands_kept, at_stands, at_past, order_length}
use Rattle.plan.proofs.Places.Order.{order_right}

pub none_hangs : (q : Query) (s : ℕ) → eqb (mask (order q) (λ t i. hangs t s)) 0 ≡ all_step q 1 (λ t i. not (hangs t s))
none_hangs q s =
    sym (all_any q 1 (λ t i. hangs t s) ∙ ap not (any_order q (λ t i. hangs t s) ∙ any_mask (order q) (λ t i. hangs t s)) ∙ not-not _)

pub first_order : (q : Query) → mask (order q) start.steps ≡ mask (back_path q) start.steps
unfolding order start
first_order q = mask_front (back_path q) start.steps (every_map (λ p e. ap (λ b. b && eqb p.step.parent 0) e) (predicates_main q 1))

-- bits and places

module _ (q : Query) (A : Steps) where
  bit_stands : {t : ℕ} {p : Numbered} → StandsAt (order q) t p → member (mask (order q) A) t ≡ A p.step p.number
  bit_stands {t} s = member_mask (order q) A t ∙ at_stands A s

  bit_past : (t : ℕ) → length q ≤ t → member (mask (order q) A) t ≡ false
  bit_past t l = member_mask (order q) A t ∙ at_past (order q) A t (omega (arith, order_length q))

  order_under : mask (order q) A < 2 ^ length q
  unfolding mask
  order_under = subst (λ n. mask (order q) A < 2 ^ n) (order_length q) (mask_of_under (length (order q)) _)

fails : (b : Bool) → T (not b) → b ≡ false
fails true h = absurd h
fails false h = refl

module _ (q : Query) (R : OrderRight q) where
  few : mains q ≤ length q
  unfolding order
  few = omega (arith, length-append (back_path q) (predicates q 1), order_length q)

  main_bits : (t : ℕ) → member (mask (order q) (λ st i. st.main)) t ≡ ltb t (mains q)
  main_bits t = go (dec_lt t (length q))
    where
      go : Dec (t < length q) → member (mask (order q) (λ st i. st.main)) t ≡ ltb t (mains q)
      go (yes l) = let s = R.all t l in bit_stands q (λ st i. st.main) s.1 ∙ R.front s.1
      go (no f) = bit_past q (λ st i. st.main) t (omega arith) ∙ sym (le-ltb t (mains q) (omega (arith, few)))

  plain_bits :
      (s : ℕ) → (all_step q 1 (λ t i. not (hangs t s)) ≡ true) ↔ ((u : ℕ) (r : Numbered) → StandsAt (order q) u r → hangs r.step s ≡ false)
  plain_bits s = (
    λ e u r there. fails _ (all_elim (λ t i. not (hangs t s)) (subst T (sym e) tt) (R.only there)),
    λ f. is_true _ (all_intro q 1 (λ t i. not (hangs t s)) (λ st i a. let p = R.each a in subst (λ b. T (not b)) (sym (f p.0 _ p.1)) tt)),
  )

  hanging : Numbered → ℕ
  hanging p = mask (order q) (λ t i. hangs t p.number)

  hung_small : (t : ℕ) → get_or (map hanging (order q)) t 0 < 2 ^ length q
  hung_small t = go (dec_lt t (length (order q)))
    where
      go : Dec (t < length (order q)) → get_or (map hanging (order q)) t 0 < 2 ^ length q
      go (yes l) =
          let s = stands_some (order q) t l in
          subst (λ m. m < 2 ^ length q) (sym (stands_kept hanging s.1)) (unfold hanging in order_under q (λ u i. hangs u s.0.number))
      go (no f) =
          subst (λ m. m < 2 ^ length q)
          (sym (get_or-eq_default (map hanging (order q)) 0 (omega (arith, length-map (order q) hanging)))) (pow_pos (length q))

  right : (plan q).first ≡ one (pred (mains q)) → PlanRight q (plan q)
  unfolding plan hanging
  right start-alone =
      record {
        steps = plan_size q;
        sets = length-map (order q) _ ∙ order_length q;
        name = λ s. stands_kept (λ p. p.step.name) s;
        hung = λ {t} {u} {p} s v. ap (λ m. member m u) (stands_kept hanging s) ∙ bit_stands q (λ st i. hangs st p.number) v;
        deep = λ s. bit_stands q (λ st i. goes_deep st.axis) s;
        main = main_bits;
        plain = λ {t} {p} s.
            let e = bit_stands q (λ st i. all_step q 1 (λ u j. not (hangs u i))) s in
            (λ h. (plain_bits p.number).0 (sym e ∙ h), λ f. e ∙ (plain_bits p.number).1 f);
        first = start-alone;
        hung_under = hung_small;
        deep_under = order_under q _;
        plain_under = order_under q _;
      }

pub plan_right : (q : Query) → T (admits q) → PlanRight q (plan q)
plan_right q a = right q (order_right q a) (plan_first q a)

-- one plan is right

same_under : (n a b : ℕ) → a < 2 ^ n → b < 2 ^ n → ((t : ℕ) → t < n → member a t ≡ member b t) → a ≡ b
same_under n a b h k e = same_members a b (λ t. go t (dec_lt t n))
  where
    go : (t : ℕ) → Dec (t < n) → member a t ≡ member b t
    go t (yes l) = e t l
    go t (no f) = member_past n a t h (omega arith) ∙ sym (member_past n b t k (omega arith))

same_plan :
    {tests tests' hung hung' : List ℕ} {deep deep' main main' plain plain' first first' : ℕ} →
    tests ≡ tests' → hung ≡ hung' → deep ≡ deep' → main ≡ main' → plain ≡ plain' → first ≡ first' →
    ◌≡◌ {A = Of.Plan}
    (record { tests = tests; hung = hung; deep = deep; main = main; plain = plain; first = first })
    (record { tests = tests'; hung = hung'; deep = deep'; main = main'; plain = plain'; first = first' })
same_plan a b c d e f = cc

pub right_one : (q : Query) → OrderRight q → (P P' : Of.Plan) → PlanRight q P → PlanRight q P' → P ≡ P'
right_one q R P P' A B =
    same_plan
    (ext_get_or 0 _ _ (A.steps ∙ sym B.steps) (λ t l. let s = R.all t (omega (arith, A.steps)) in A.name s.1 ∙ sym (B.name s.1)))
    (ext_get_or 0 _ _ (A.sets ∙ sym B.sets) (λ t l. same_under (length q) _ _ (A.hung_under t) (B.hung_under t) (hung t (omega (arith, A.sets)))))
    (same_under (length q) _ _ A.deep_under B.deep_under (λ t l. let s = R.all t l in A.deep s.1 ∙ sym (B.deep s.1)))
    (same_members _ _ (λ t. A.main t ∙ sym (B.main t)))
    (same_under (length q) _ _ A.plain_under B.plain_under
    (λ t l. let s = R.all t l in bool_iff _ _ (λ e. (B.plain s.1).1 ((A.plain s.1).0 e)) (λ e. (A.plain s.1).1 ((B.plain s.1).0 e))))
    (A.first ∙ sym B.first)
  where
    hung : (t : ℕ) → t < length q → (u : ℕ) → u < length q → member (get_or P.hung t 0) u ≡ member (get_or P'.hung t 0) u
    hung t l u k = let s = R.all t l in let v = R.all u k in A.hung s.1 v.1 ∙ sym (B.hung s.1 v.1)
