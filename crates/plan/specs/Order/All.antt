-- The order of a query has each of its steps, the main-path steps first.
--
--   path_main, predicates_main      the steps of the path are on the main path, the others are not
--   any_order          some step of the query is in A exactly if some step of the order is
--   any_main           some main-path step is exactly if some step of the path is
--   all_any            no step is in A exactly if not some is
--   all_order          each step of H is in K exactly if K's mask covers H's
--   main_mask          met with the main path's mask, the predicate steps fall away
--
-- Assumes nothing.
use Rattle.std.specs.Prelude.{ℕ, suc, ◌≡◌, refl, Bool, true, false, not, ◌&&◌, ◌||◌}
use Rattle.std.proofs.Common.{sym, ap, ap₂, ◌∙◌}
use Rattle.std.proofs.Math.Bool.{or-false, or_assoc, and-true, and-false}
use mathlib.Core.List.{List, [], ◌∷◌, ◌++◌, reverse_aux}
use Rattle.meaning.specs.Query.{Step, Query, Steps, any_step, all_step, Numbered, main_if, main_path}
use Rattle.sets.specs.Set.{meet, covers}
use Rattle.plan.specs.Every.{Every, e_nil, e_cons, every_map, every_reverse}
use Rattle.plan.specs.Any.{sets_ext}
use Rattle.plan.specs.Order.{predicate_if, predicates, back_path, order, any_of, mask}
use Rattle.plan.specs.Order.Mask.{mask_meet, covers_mask, Agree, mask_agree, any_agree, mask_front}

-- which steps are where

main_if_lem :
    (b : Bool) (st : Step) (i : ℕ) {ps : List Numbered} → st.main ≡ b → Every (λ p. p.step.main ≡ true) ps →
    Every (λ p. p.step.main ≡ true) (main_if b st i ps)
unfolding main_if
main_if_lem true st i e t = e_cons e t
main_if_lem false st i e t = t

mains_main : (q : Query) (i : ℕ) → Every (λ p. p.step.main ≡ true) (main_path q i)
unfolding main_path
mains_main [] i = e_nil
mains_main (st ∷ q) i = main_if_lem st.main st i refl (mains_main q (suc i))

pub path_main : (q : Query) → Every (λ p. p.step.main ≡ true) (back_path q)
unfolding back_path
path_main q = every_reverse (mains_main q 1)

predicate_if_lem :
    (b : Bool) (st : Step) (i : ℕ) {ps : List Numbered} → st.main ≡ b → Every (λ p. p.step.main ≡ false) ps →
    Every (λ p. p.step.main ≡ false) (predicate_if b st i ps)
unfolding predicate_if
predicate_if_lem true st i e t = t
predicate_if_lem false st i e t = e_cons e t

pub predicates_main : (q : Query) (i : ℕ) → Every (λ p. p.step.main ≡ false) (predicates q i)
unfolding predicates
predicates_main [] i = e_nil
predicates_main (st ∷ q) i = predicate_if_lem st.main st i refl (predicates_main q (suc i))

-- searches

any_append : (ps rs : List Numbered) (A : Steps) → any_of (ps ++ rs) A ≡ (any_of ps A || any_of rs A)
unfolding any_of
any_append [] rs A = refl
any_append (p ∷ ps) rs A = ap (λ b. A p.step p.number || b) (any_append ps rs A) ∙ sym (or_assoc (A p.step p.number) _ _)

or_later : (a b c : Bool) → (a || (b || c)) ≡ (b || (a || c))
or_later true true c = refl
or_later true false c = refl
or_later false b c = refl

any_reversed : (ps rs : List Numbered) (A : Steps) → any_of (reverse_aux ps rs) A ≡ (any_of ps A || any_of rs A)
unfolding any_of
any_reversed [] rs A = refl
any_reversed (p ∷ ps) rs A =
    any_reversed ps (p ∷ rs) A ∙ or_later (any_of ps A) (A p.step p.number) _ ∙ sym (or_assoc (A p.step p.number) _ _)

split_step :
    (b : Bool) (st : Step) (i : ℕ) (ps rs : List Numbered) (A : Steps) →
    (A st i || (any_of ps A || any_of rs A)) ≡ (any_of (main_if b st i ps) A || any_of (predicate_if b st i rs) A)
unfolding main_if predicate_if any_of
split_step true st i ps rs A = sym (or_assoc (A st i) _ _)
split_step false st i ps rs A = or_later (A st i) (any_of ps A) _

any_split : (q : Query) (i : ℕ) (A : Steps) → any_step q i A ≡ (any_of (main_path q i) A || any_of (predicates q i) A)
unfolding any_step main_path predicates any_of
any_split [] i A = refl
any_split (st ∷ q) i A =
    ap (λ b. A st i || b) (any_split q (suc i) A) ∙ split_step st.main st i (main_path q (suc i)) (predicates q (suc i)) A

any_path : (q : Query) (A : Steps) → any_of (back_path q) A ≡ any_of (main_path q 1) A
unfolding back_path
any_path q A = any_reversed (main_path q 1) [] A ∙ unfold any_of in or-false (any_of (main_path q 1) A)

pub any_order : (q : Query) (A : Steps) → any_step q 1 A ≡ any_of (order q) A
unfolding order
any_order q A =
    any_split q 1 A ∙ sym (any_append (back_path q) (predicates q 1) A ∙ ap (λ b. b || any_of (predicates q 1) A) (any_path q A))

any_none : (ps : List Numbered) → any_of ps (λ st i. false) ≡ false
unfolding any_of
any_none [] = refl
any_none (p ∷ ps) = any_none ps

on_main : (A : Steps) (p : Numbered) → p.step.main ≡ true → Agree (λ st i. st.main && A st i) A p
on_main A p e = ap (λ b. b && A p.step p.number) e

off_main : (A : Steps) (p : Numbered) → p.step.main ≡ false → Agree (λ st i. st.main && A st i) (λ st i. false) p
off_main A p e = ap (λ b. b && A p.step p.number) e

pub any_main : (q : Query) (A : Steps) → any_step q 1 (λ st i. st.main && A st i) ≡ any_of (back_path q) A
any_main q A =
    any_split q 1 (λ st i. st.main && A st i)
    ∙ ap₂ ◌||◌ (any_agree (λ st i. st.main && A st i) A (every_map (on_main A) (mains_main q 1)))
    (any_agree (λ st i. st.main && A st i) (λ st i. false) (every_map (off_main A) (predicates_main q 1)) ∙ any_none (predicates q 1))
    ∙ or-false (any_of (main_path q 1) A)
    ∙ sym (any_path q A)

-- masks

not_or : (a b : Bool) → (not a && not b) ≡ not (a || b)
not_or true b = refl
not_or false b = refl

pub all_any : (q : Query) (i : ℕ) (A : Steps) → all_step q i (λ st j. not (A st j)) ≡ not (any_step q i A)
unfolding all_step any_step
all_any [] i A = refl
all_any (st ∷ q) i A = ap (λ b. not (A st i) && b) (all_any q (suc i) A) ∙ not_or (A st i) _

missing : (h k : Bool) → (not h || k) ≡ not (h && not k)
missing true true = refl
missing true false = refl
missing false k = refl

pub all_order : (q : Query) (H K : Steps) → all_step q 1 (λ st i. not (H st i) || K st i) ≡ covers (mask (order q) K) (mask (order q) H)
all_order q H K =
    ap (all_step q 1) (sets_ext (λ st i. missing (H st i) (K st i)))
    ∙ all_any q 1 (λ st i. H st i && not (K st i))
    ∙ ap not (any_order q (λ st i. H st i && not (K st i)))
    ∙ covers_mask (order q) H K

pub main_mask : (q : Query) (A : Steps) → mask (back_path q) A ≡ meet (mask (order q) A) (mask (order q) (λ st i. st.main))
unfolding order
main_mask q A =
    sym (mask_agree (λ st i. A st i && st.main) A (every_map on (path_main q)))
    ∙ sym (mask_front (back_path q) (λ st i. A st i && st.main) (every_map off (predicates_main q 1)))
    ∙ mask_meet (back_path q ++ predicates q 1) A (λ st i. st.main)
  where
    on : (p : Numbered) → p.step.main ≡ true → Agree (λ st i. A st i && st.main) A p
    on p e = ap (λ b. A p.step p.number && b) e ∙ and-true (A p.step p.number)

    off : (p : Numbered) → p.step.main ≡ false → (A p.step p.number && p.step.main) ≡ false
    off p e = ap (λ b. A p.step p.number && b) e ∙ and-false (A p.step p.number)
