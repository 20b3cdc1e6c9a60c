-- Masks of sets of steps, in any list of steps: each operation on sets is one on masks.
--
--   member_mask        bit t of the mask is the step at place t
--   mask_join, mask_meet, mask_none      the operations
--   any_mask           some step is in A exactly if the mask is not 0
--   overlaps_mask      some step is in both exactly if the masks overlap
--   covers_mask        no step of H is missing in K exactly if K's mask covers H's
--   meet_prefix        met with a mask of the first steps alone, what stands after them falls away
--   mask_agree, any_agree      sets that agree along the list
--   mask_front         a set that has none of the later steps
--   mask_of_listed      a mask made place by place from a list of what the steps have
--
-- Assumes nothing.
use Rattle.std.specs.Prelude.{ℕ, zero, suc, ◌+◌, ◌*◌, ◌≡◌, refl, Bool, true, false, not, ◌&&◌, ◌||◌, List, [], ◌∷◌, ◌++◌, map, eqb, ltb, length, get_or}
use Rattle.std.proofs.Common.{arith, sym, ap, ap₂, ◌∙◌, eqb-true, eq-eqb, ne_eqb, lt-ltb}
use Rattle.std.proofs.Math.Bool.{and-false}
use Rattle.std.proofs.Math.Dec.{leb-suc-suc}
use Rattle.meaning.specs.Query.{Steps, Numbered}
use Rattle.sets.specs.Set.{member, join, meet, covers, overlaps, bit, mask_of}
use Rattle.sets.proofs.Set.Laws.{member_join, member_meet, same_members}
use Rattle.sets.proofs.Set.Of.{member_mask_of}
use Rattle.sets.proofs.Set.Order.{bool_iff}
use Rattle.plan.specs.Every.{Every, e_nil, e_cons}
use Rattle.plan.specs.Order.{any_of, at, mask}

at_under : (ps : List Numbered) (A : Steps) (t : ℕ) → (ltb t (length ps) && at ps A t) ≡ at ps A t
unfolding at
at_under [] A t = and-false (ltb t 0)
at_under (p ∷ ps) A zero = ap (λ b. b && A p.step p.number) (lt-ltb 0 (suc (length ps)) (omega arith))
at_under (p ∷ ps) A (suc t) = ap (λ b. b && at ps A t) (leb-suc-suc (suc t) (length ps)) ∙ at_under ps A t

pub member_mask : (ps : List Numbered) (A : Steps) (t : ℕ) → member (mask ps A) t ≡ at ps A t
unfolding mask
member_mask ps A t = member_mask_of (length ps) (at ps A) t ∙ at_under ps A t

at_or : (ps : List Numbered) (A B : Steps) (t : ℕ) → at ps (λ st i. A st i || B st i) t ≡ (at ps A t || at ps B t)
unfolding at
at_or [] A B t = refl
at_or (p ∷ ps) A B zero = refl
at_or (p ∷ ps) A B (suc t) = at_or ps A B t

pub at_and : (ps : List Numbered) (A B : Steps) (t : ℕ) → at ps (λ st i. A st i && B st i) t ≡ (at ps A t && at ps B t)
unfolding at
at_and [] A B t = refl
at_and (p ∷ ps) A B zero = refl
at_and (p ∷ ps) A B (suc t) = at_and ps A B t

pub mask_join : (ps : List Numbered) (A B : Steps) → mask ps (λ st i. A st i || B st i) ≡ join (mask ps A) (mask ps B)
mask_join ps A B = same_members _ _ (λ t. simp (member_join, member_mask) (at_or ps A B t))

pub mask_meet : (ps : List Numbered) (A B : Steps) → mask ps (λ st i. A st i && B st i) ≡ meet (mask ps A) (mask ps B)
mask_meet ps A B = same_members _ _ (λ t. simp (member_meet, member_mask) (at_and ps A B t))

pub mask_none : (ps : List Numbered) → mask ps (λ st i. false) ≡ 0
unfolding mask mask_of at
mask_none [] = refl
mask_none (p ∷ ps) = ap (λ x. x * 2 + 0) (mask_none ps)

-- tests over a list

eqb_by : (m n x y : ℕ) → (m ≡ n → x ≡ y) → (x ≡ y → m ≡ n) → eqb m n ≡ eqb x y
eqb_by m n x y f g = bool_iff _ _ (λ e. eq-eqb x y (f (eqb-true m n e))) (λ e. eq-eqb m n (g (eqb-true x y e)))

some_bit : (b : Bool) (x : ℕ) → (b || not (eqb x 0)) ≡ not (eqb (x * 2 + bit b) 0)
some_bit true x = ap not (sym (ne_eqb (x * 2 + 1) 0 (λ e. omega arith)))
some_bit false x = ap not (sym (eqb_by (x * 2 + 0) 0 x 0 (λ e. omega arith) (λ e. omega arith)))

pub any_mask : (ps : List Numbered) (A : Steps) → any_of ps A ≡ not (eqb (mask ps A) 0)
unfolding any_of mask mask_of at
any_mask [] A = refl
any_mask (p ∷ ps) A = ap (λ b. A p.step p.number || b) (any_mask ps A) ∙ some_bit (A p.step p.number) (mask ps A)

pub overlaps_mask : (ps : List Numbered) (A B : Steps) → any_of ps (λ st i. A st i && B st i) ≡ overlaps (mask ps A) (mask ps B)
unfolding overlaps
overlaps_mask ps A B = any_mask ps _ ∙ ap (λ x. not (eqb x 0)) (mask_meet ps A B)

eqb_digits : (x y : ℕ) (h k a : Bool) → eqb x y ≡ not a → eqb (x * 2 + bit (h && k)) (y * 2 + bit h) ≡ not ((h && not k) || a)
eqb_digits x y true true a e = eqb_by (x * 2 + 1) (y * 2 + 1) x y (λ e. omega arith) (λ e. omega arith) ∙ e
eqb_digits x y true false a e = ne_eqb (x * 2 + 0) (y * 2 + 1) (λ e. omega arith)
eqb_digits x y false k a e = eqb_by (x * 2 + 0) (y * 2 + 0) x y (λ e. omega arith) (λ e. omega arith) ∙ e

within_mask :
    (ps : List Numbered) (H K : Steps) →
    eqb (mask ps (λ st i. H st i && K st i)) (mask ps H) ≡ not (any_of ps (λ st i. H st i && not (K st i)))
unfolding mask mask_of at any_of
within_mask [] H K = refl
within_mask (p ∷ ps) H K =
    eqb_digits (mask ps (λ st i. H st i && K st i)) (mask ps H) (H p.step p.number) (K p.step p.number) _ (within_mask ps H K)

pub covers_mask : (ps : List Numbered) (H K : Steps) → not (any_of ps (λ st i. H st i && not (K st i))) ≡ covers (mask ps K) (mask ps H)
unfolding covers
covers_mask ps H K = sym (within_mask ps H K) ∙ ap (λ x. eqb x (mask ps H)) (mask_meet ps H K)

-- two lists of steps

at_prefix : (ps rs : List Numbered) (A B : Steps) (t : ℕ) → at ps (λ st i. A st i && B st i) t ≡ (at (ps ++ rs) A t && at ps B t)
unfolding at
at_prefix [] rs A B t = sym (and-false (at rs A t))
at_prefix (p ∷ ps) rs A B zero = refl
at_prefix (p ∷ ps) rs A B (suc t) = at_prefix ps rs A B t

pub meet_prefix : (ps rs : List Numbered) (A B : Steps) → mask ps (λ st i. A st i && B st i) ≡ meet (mask (ps ++ rs) A) (mask ps B)
meet_prefix ps rs A B = same_members _ _ (λ t. simp (member_meet, member_mask) (at_prefix ps rs A B t))

abbrev pub Agree : Steps → Steps → Numbered → Type 0
Agree A B p = A p.step p.number ≡ B p.step p.number

pub mask_agree : (A B : Steps) {ps : List Numbered} → Every (Agree A B) ps → mask ps A ≡ mask ps B
unfolding mask mask_of at
mask_agree A B e_nil = refl
mask_agree A B (e_cons {x = p} e t) = ap₂ (λ x b. x * 2 + bit b) (mask_agree A B t) e

pub any_agree : (A B : Steps) {ps : List Numbered} → Every (Agree A B) ps → any_of ps A ≡ any_of ps B
unfolding any_of
any_agree A B e_nil = refl
any_agree A B (e_cons {x = p} e t) = ap₂ ◌||◌ e (any_agree A B t)

pub mask_front :
    (ps : List Numbered) {rs : List Numbered} (A : Steps) → Every (λ p. A p.step p.number ≡ false) rs →
    mask (ps ++ rs) A ≡ mask ps A
unfolding mask mask_of at
mask_front [] {rs} A t = mask_agree A (λ st i. false) t ∙ mask_none rs
mask_front (p ∷ ps) A t = ap (λ x. x * 2 + bit (A p.step p.number)) (mask_front ps A t)

-- place by place

listed_all :
    {B : Type 0} (ps : List Numbered) (has : Numbered → B) (d : B) (test : B → Bool) (A : Steps) →
    ((p : Numbered) → test (has p) ≡ A p.step p.number) → mask_of (length ps) (λ t. test (get_or (map has ps) t d)) ≡ mask ps A
unfolding mask mask_of at
listed_all [] has d test A e = refl
listed_all (p ∷ ps) has d test A e = ap₂ (λ x b. x * 2 + bit b) (listed_all ps has d test A e) (e p)

pub mask_of_listed :
    {B : Type 0} (n : ℕ) (ps : List Numbered) (has : Numbered → B) (d : B) (test : B → Bool) (A : Steps) →
    n ≡ length ps → ((p : Numbered) → test (has p) ≡ A p.step p.number) → mask_of n (λ t. test (get_or (map has ps) t d)) ≡ mask ps A
mask_of_listed n ps has d test A l e = ap (λ k. mask_of k (λ t. test (get_or (map has ps) t d))) l ∙ listed_all ps has d test A e
