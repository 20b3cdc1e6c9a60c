-- What a plan's masks are, as numbers, and how wide.
--
--   plan_size          there is a name test for each step
--   plan_main          the main path's mask has the lowest bits, one a step
--   plan_first         only the highest of them is ready at the document
--   hung_predicates    what hangs on a step are predicate steps
--   meets_predicates   so of what is below an element, meets sees the predicate steps alone
--   lift_predicates    and predicate steps alone rise
--   named_under, meets_under     what an element passes and meets has no bit past the last step
--   meet_narrow, up_narrow       in w digits a shifted need may lose its highest digit: met with a set of w digits it is the same
--
-- Assumes nothing but, for plan_first, T (admits q).
use Rattle.std.specs.Prelude.{ℕ, zero, suc, pred, ◌+◌, ◌-◌, ◌*◌, ◌%◌, ◌^◌, ◌<◌, ◌≡◌, refl, eqb}
use Rattle.std.specs.Prelude.{Bool, true, false, not, ◌&&◌, ◌||◌, T, List, [], ◌∷◌, map, length, get_or}
use Rattle.std.proofs.Common.{pow-suc, mod-eq_of_lt, lt_of_le_of_lt, arith, sym, ap, ap₂, ◌∙◌, true≢false, pow_pos, eq-eqb, ne_eqb}
use Rattle.std.proofs.Math.Bool.{and-false}
use Rattle.std.proofs.lemmas.Nat.{and_le_l, and_le_r, and_mod}
use Rattle.std.specs.Int.Bits.{and_zero_l}
use Rattle.std.proofs.lemmas.List.{length-map}
use Rattle.meaning.specs.Query.{Query, Numbered, hangs, admits}
use Rattle.meaning.specs.Selection.{start}
use Rattle.sets.specs.Set.{member, join, meet, without, covers, bit, mask_of}
use Rattle.sets.proofs.Set.Laws.{member_join, member_meet, member_without, member_none, no_members}
use Rattle.sets.proofs.Set.Algebra.{meet_apart}
use Rattle.sets.proofs.Set.Of.{mask_of_under, mask_of_agree}
use Rattle.plan.specs.Any.{sets_ext}
use Rattle.plan.specs.Every.{every_map}
use Rattle.plan.specs.Order.{back_path, order, at, mask}
use Rattle.plan.specs.Order.Mask.{mask_meet, mask_none, mask_agree, mask_front}
use Rattle.plan.specs.Order.All.{path_main, predicates_main}
use Rattle.plan.specs.Order.Path.{Linked, ends, links, path_linked, last_main_positive}
use Rattle.plan.proofs.Places.Laws.{order_length}
use Rattle.plan.specs.Plan.{Plan, plan, named, meets, lift, up_if}

pub plan_size : (q : Query) → length (plan q).tests ≡ length q
unfolding plan
plan_size q = length-map (order q) _ ∙ order_length q

-- the main path

mask_all : (ps : List Numbered) → mask ps (λ st i. true) ≡ 2 ^ length ps - 1
unfolding mask mask_of at
mask_all [] = refl
mask_all (p ∷ ps) = let e = mask_all ps in let k : 0 < 2 ^ length ps = pow_pos (length ps) in omega (arith, pow-suc 2 (length ps))

pub plan_main : (q : Query) → (plan q).main ≡ 2 ^ length (back_path q) - 1
unfolding plan order
plan_main q =
    mask_front (back_path q) (λ st i. st.main) (predicates_main q 1)
    ∙ mask_agree (λ st i. st.main) (λ st i. true) (path_main q)
    ∙ mask_all (back_path q)

first_mask : {near : ℕ} {ps : List Numbered} → 0 < near → Linked near ps → mask ps (λ st i. eqb st.parent 0) ≡ 2 ^ pred (length ps)
unfolding mask mask_of at
first_mask l (ends e) = absurd (omega arith)
first_mask l (links {near} {prev} {p} e d k (ends z)) = ap (λ b. 0 * 2 + bit b) (eq-eqb p.step.parent 0 (d ∙ z))
first_mask l (links {near} {prev} {p} {ps} e d k (links {prev = last} {p = p'} {ps = ps'} e' d' k' t')) =
    ap₂ (λ x b. x * 2 + bit b) (first_mask (omega arith) (links {p = p'} e' d' k' t')) (ne_eqb p.step.parent 0 (λ x. omega arith))
    ∙ omega (arith, pow-suc 2 (length ps'))

pub plan_first : (q : Query) → T (admits q) → (plan q).first ≡ 2 ^ pred (length (back_path q))
unfolding plan start
plan_first q a =
    mask_agree (λ st i. st.main && eqb st.parent 0) (λ st i. eqb st.parent 0)
    (every_map (λ p e. ap (λ b. b && eqb p.step.parent 0) e) (path_main q))
    ∙ first_mask (last_main_positive q a) (path_linked q a)

-- what hangs on a step

predicate_hangs : (q : Query) (s : ℕ) → meet (mask (order q) (λ t i. hangs t s)) (plan q).main ≡ 0
unfolding plan hangs
predicate_hangs q s =
    sym (mask_meet (order q) (λ t i. hangs t s) (λ st i. st.main))
    ∙ ap (mask (order q)) (sets_ext (λ t i. off t.main (eqb t.parent s)))
    ∙ mask_none (order q)
  where
    off : (m e : Bool) → ((not m && e) && m) ≡ false
    off true e = refl
    off false e = and-false e

pub hung_predicates : (q : Query) (t : ℕ) → meet (get_or (plan q).hung t 0) (plan q).main ≡ 0
unfolding plan
hung_predicates q t = go (order q) t
  where
    go : (ps : List Numbered) (t : ℕ) → meet (get_or (map (λ p. mask (order q) (λ u i. hangs u p.number)) ps) t 0) (plan q).main ≡ 0
    go [] t = and_zero_l (plan q).main
    go (p ∷ ps) zero = predicate_hangs q p.number
    go (p ∷ ps) (suc t) = go ps t

pub meets_predicates : (q : Query) (pass K : ℕ) → meets (plan q) pass (without K (plan q).main) ≡ meets (plan q) pass K
unfolding meets covers
meets_predicates q pass K =
    ap (λ m. meet m pass)
    (mask_of_agree (length (plan q).tests) _ _
    (λ t l. ap (λ x. eqb x (get_or (plan q).hung t 0)) (meet_apart (get_or (plan q).hung t 0) K (plan q).main (hung_predicates q t))))

pub lift_predicates : (P : Plan) (M K : ℕ) → meet K P.main ≡ 0 → meet (lift P M K) P.main ≡ 0
unfolding lift
lift_predicates P M K e =
    no_members _
    (λ t. simp (member_meet, member_join, member_without)
    (law (member M t) (member K t) (member P.deep t) (member P.main t)
    (sym (member_meet K P.main t) ∙ ap (λ x. member x t) e ∙ member_none t)))
  where
    law : (x k d m : Bool) → (k && m) ≡ false → (((x && not m) || (k && d)) && m) ≡ false
    law x k d false f = and-false ((x && true) || (k && d))
    law x true d true f = absurd (true≢false f)
    law true false d true f = refl
    law false false d true f = refl

-- widths

pub named_under : (P : Plan) (n : ℕ) → named P n < 2 ^ length P.tests
unfolding named
named_under P n = mask_of_under (length P.tests) _

pub meets_under : (P : Plan) (pass K : ℕ) → meets P pass K < 2 ^ length P.tests
unfolding meets
meets_under P pass K = lt_of_le_of_lt (and_le_l _ pass) (mask_of_under (length P.tests) _)

pub meet_narrow : (w x M : ℕ) → M < 2 ^ w → meet (x % 2 ^ w) M ≡ meet x M
meet_narrow w x M h =
    ap (meet (x % 2 ^ w)) (sym (mod-eq_of_lt h)) ∙ sym (and_mod x M w) ∙ mod-eq_of_lt (lt_of_le_of_lt (and_le_r x M) h)

pub up_narrow :
    (w : ℕ) (P : Plan) (M need : ℕ) → M < 2 ^ w →
    join (meet (meet ((need * 2) % 2 ^ w) M) P.main) (meet need P.deep) ≡ up_if false P M need
unfolding up_if
up_narrow w P M need h = ap (λ x. join (meet x P.main) (meet need P.deep)) (meet_narrow w (need * 2) M h)
