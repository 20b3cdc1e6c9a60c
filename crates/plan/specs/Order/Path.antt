-- What the query rules make of the path: each of its steps hangs on the next one in the list, and numbers fall. So a shift does what the
-- meaning says of the step that another hangs on.
--
--   Linked near ps     ps begins with step number `near`, each step hangs on the next, the last on the document, and numbers fall
--   path_linked        the path of an admitted query is so, from the last main-path step
--   given_shift        among the steps of h, that which a step hangs on is one place further
--   wanted_first, wanted_shift      and the steps on which a step of N hangs are those of N, one place further
--   given_first        the step number `near` is at place 0;  first_alone: and nowhere else
--   last_main_positive  there is a main-path step
--
-- Assumes nothing but the rules.
use Prim.Native.Nat.{ℕ, zero, suc, ◌<◌, ◌≤◌}
use Rattle.std.proofs.Common.{le_refl, arith, ◌∙◌, eq-eqb, ne_eqb}
use Rattle.std.specs.Prelude.{◌≡◌, Bool, true, false, ◌&&◌, ◌||◌, T}
use Rattle.std.proofs.Math.Path.{refl, sym, ap, ap₂}
use Rattle.std.proofs.Math.Bool.{or-false, and-true, and-false}
use mathlib.Core.List.{List, [], ◌∷◌, ◌++◌, reverse_aux}
use Rattle.std.proofs.Math.Dec.{eqb, eqb-zero-suc}
use Rattle.meaning.specs.Logic.{neither}
use Rattle.meaning.proofs.Query.Laws.{Chain, c_nil, c_cons, path_chain, Starts, starts, path_some}
use Rattle.meaning.specs.Query.{Step, Query, Steps, Numbered, main_if, main_path, last_of, last_main, admits}
use Rattle.plan.specs.Order.{back_path, any_of, at}

pub data Linked : ℕ → List Numbered → Type 0 where
  ends : {near : ℕ} → near ≡ 0 → Linked near []
  links :
      {near prev : ℕ} {p : Numbered} {ps : List Numbered} →
      near ≡ p.number → p.step.parent ≡ prev → prev < near → Linked prev ps → Linked near (p ∷ ps)

-- from the rules

data RisingNumbers : ℕ → List Numbered → Type 0 where
  r_nil : {l : ℕ} → RisingNumbers l []
  r_cons : {l : ℕ} {p : Numbered} {ps : List Numbered} → l < p.number → RisingNumbers p.number ps → RisingNumbers l (p ∷ ps)

rise_if_lem : (b : Bool) (st : Step) (i l : ℕ) {ps : List Numbered} → l < i → RisingNumbers i ps → RisingNumbers l ps → RisingNumbers l (main_if b st i ps)
unfolding main_if
rise_if_lem true st i l h r s = r_cons {p = record { step = st; number = i }} h r
rise_if_lem false st i l h r s = s

mains_rise : (q : Query) (i l : ℕ) → l < i → RisingNumbers l (main_path q i)
unfolding main_path
mains_rise [] i l h = r_nil
mains_rise (st ∷ q) i l h = rise_if_lem st.main st i l h (mains_rise q (suc i) i (le_refl (suc i))) (mains_rise q (suc i) l (omega arith))

turned_round :
    {q : Query} {i near : ℕ} {ps qs : List Numbered} → Chain q i near ps → RisingNumbers near ps → Linked near qs →
    Linked (last_of ps near) (reverse_aux ps qs)
unfolding last_of
turned_round c_nil r_nil t = t
turned_round (c_cons o e c) (r_cons h r) t = turned_round c r (links refl e h t)

pub path_linked : (q : Query) → T (admits q) → Linked (last_main q) (back_path q)
unfolding last_main back_path
path_linked q a = turned_round (path_chain q a) (mains_rise q 1 0 (le_refl 1)) (ends refl)

round_positive : {near : ℕ} (ps : List Numbered) (p : Numbered) (qs : List Numbered) → Linked near (reverse_aux ps (p ∷ qs)) → 0 < near
round_positive [] p qs (links e d k t) = omega arith
round_positive (x ∷ ps) p qs t = round_positive ps x (p ∷ qs) t

pub last_main_positive : (q : Query) → T (admits q) → 0 < last_main q
unfolding back_path
last_main_positive q a = go (path_some q a) (path_linked q a)
  where
    go : {ps : List Numbered} → Starts q ps → Linked (last_main q) (reverse_aux ps []) → 0 < last_main q
    go (starts {p} {ps} o e) t = round_positive ps p [] t

-- numbers and parents fall along a linked list, so one step at most has a given number or hangs on a given step

module _ (p : Numbered) (ps : List Numbered) (s : ℕ) (A : Steps) where
  number_passed : s < p.number → any_of (p ∷ ps) (λ u j. eqb j s && A u j) ≡ any_of ps (λ u j. eqb j s && A u j)
  unfolding any_of
  number_passed l = ap (λ b. (b && A p.step p.number) || any_of ps (λ u j. eqb j s && A u j)) (ne_eqb p.number s (λ x. omega arith))

  parent_passed :
      (s ≡ p.step.parent → ⊥) → any_of (p ∷ ps) (λ u j. A u j && eqb s u.parent) ≡ any_of ps (λ u j. A u j && eqb s u.parent)
  unfolding any_of
  parent_passed f =
      ap (λ b. (A p.step p.number && b) || any_of ps (λ u j. A u j && eqb s u.parent)) (ne_eqb s p.step.parent f)
      ∙ ap (λ b. b || any_of ps (λ u j. A u j && eqb s u.parent)) (and-false (A p.step p.number))

no_number : {near : ℕ} {ps : List Numbered} (s : ℕ) (h : Steps) → near < s → Linked near ps → any_of ps (λ u j. eqb j s && h u j) ≡ false
unfolding any_of
no_number s h l (ends e) = refl
no_number s h l (links {near} {prev} {p} {ps} e d k t) =
    ap₂ (λ b c. (b && h p.step p.number) || c) (ne_eqb p.number s (λ x. omega arith)) (no_number s h (omega arith) t)

no_parent :
    {near : ℕ} {ps : List Numbered} (s : ℕ) (N : Steps) → near ≤ s → Linked near ps →
    any_of ps (λ u j. N u j && eqb s u.parent) ≡ false
no_parent s N l (ends e) = unfold any_of in refl
no_parent s N l (links {near} {prev} {p} {ps} e d k t) = parent_passed p ps s N (λ x. omega arith) ∙ no_parent s N (omega arith) t

pub given_first : {near : ℕ} {ps : List Numbered} (h : Steps) → Linked near ps → any_of ps (λ u j. eqb j near && h u j) ≡ at ps h 0
unfolding any_of at
given_first h (ends e) = refl
given_first h (links {near} {prev} {p} {ps} e d k t) =
    ap₂ (λ b c. (b && h p.step p.number) || c) (eq-eqb p.number near (sym e)) (no_number near h k t)
    ∙ or-false (h p.step p.number)

-- the step that another hangs on; below, ps is the end of qs from step number `near` on

module _ (qs : List Numbered) (h : Steps) where
  abbrev pub given_at : ℕ → Bool
  given_at s = any_of qs (λ u j. eqb j s && h u j)

  shift_from :
      {near : ℕ} {ps : List Numbered} → ((s : ℕ) → s ≤ near → given_at s ≡ any_of ps (λ u j. eqb j s && h u j)) → Linked near ps →
      (t : ℕ) → at ps (λ st i. given_at st.parent) t ≡ at ps h (suc t)
  unfolding at
  shift_from same (ends e) t = refl
  shift_from same (links {near} {prev} {p} {ps} e d k t) zero =
      ap given_at d ∙ same prev (omega arith) ∙ number_passed p ps prev h (omega arith) ∙ given_first h t
  shift_from same (links {near} {prev} {p} {ps} e d k t) (suc n) =
      shift_from (λ s l. same s (omega arith) ∙ number_passed p ps s h (omega arith)) t n

  pub given_shift : {near : ℕ} → Linked near qs → (t : ℕ) → at qs (λ st i. given_at st.parent) t ≡ at qs h (suc t)
  given_shift l = shift_from (λ s k. refl) l

-- the steps on which one of N hangs

module _ (qs : List Numbered) (N : Steps) where
  abbrev pub wanted_at : ℕ → Bool
  wanted_at s = any_of qs (λ u j. N u j && eqb s u.parent)

  want_from :
      {near prev : ℕ} (p : Numbered) {ps : List Numbered} →
      ((s : ℕ) → s < near → wanted_at s ≡ any_of (p ∷ ps) (λ u j. N u j && eqb s u.parent)) →
      p.step.parent ≡ prev → prev < near → Linked prev ps → (t : ℕ) →
      at ps (λ st i. wanted_at i) t ≡ (at (p ∷ ps) N t && at ps (λ st i. true) t)
  unfolding at
  want_from p same d k (ends e) t = sym (and-false (at (p ∷ []) N t))
  want_from {near} {prev} p same d k (links {prev = last} {p = p'} {ps = ps'} e' d' k' t') zero =
      ap wanted_at (sym e')
      ∙ same prev k
      ∙ unfold any_of in
      ap₂ (λ b c. (N p.step p.number && b) || c) (eq-eqb prev p.step.parent (sym d))
      (no_parent prev N (le_refl prev) (links e' d' k' t'))
      ∙ or-false (N p.step p.number && true)
  want_from {near} {prev} p same d k (links {prev = last} {p = p'} {ps = ps'} e' d' k' t') (suc n) =
      want_from p' (λ s l. same s (omega arith) ∙ parent_passed p (p' ∷ ps') s N (λ x. omega arith)) d' k' t' n

pub wanted_first : {near : ℕ} {qs : List Numbered} (N : Steps) → Linked near qs → at qs (λ st i. wanted_at qs N i) 0 ≡ false
unfolding at
wanted_first N (ends e) = refl
wanted_first N (links {near} {prev} {p} {ps} e d k t) = no_parent p.number N (omega arith) (links {p = p} e d k t)

pub wanted_shift :
    {near : ℕ} {qs : List Numbered} (N : Steps) → Linked near qs → (t : ℕ) →
    at qs (λ st i. wanted_at qs N i) (suc t) ≡ (at qs N t && at qs (λ st i. true) (suc t))
unfolding at
wanted_shift N (ends e) t = refl
wanted_shift N (links {near} {prev} {p} {ps} e d k t) n = want_from (p ∷ ps) N p (λ s l. refl) d k t n

-- the first step of the list alone

any_at : (ps : List Numbered) (A : Steps) → any_of ps A ≡ false → (t : ℕ) → at ps A t ≡ false
unfolding any_of at
any_at [] A e t = refl
any_at (p ∷ ps) A e zero = (neither (A p.step p.number) (any_of ps A) e).0
any_at (p ∷ ps) A e (suc t) = any_at ps A (neither (A p.step p.number) (any_of ps A) e).1 t

pub first_alone :
    {near : ℕ} {ps : List Numbered} (rs : List Numbered) (M : Steps) → 0 < near → Linked near ps → (t : ℕ) →
    at ps (λ st i. eqb i near && M st i) t ≡ (at (ps ++ rs) M t && eqb 0 t)
unfolding at
first_alone rs M l (ends e) t = absurd (omega arith)
first_alone rs M l (links {near} {prev} {p} {ps} e d k t) zero =
    ap (λ b. b && M p.step p.number) (eq-eqb p.number near (sym e)) ∙ sym (and-true (M p.step p.number))
first_alone rs M l (links {near} {prev} {p} {ps} e d k t) (suc n) =
    any_at ps (λ st i. eqb i near && M st i) (no_number near M k t) n
    ∙ sym (ap (λ b. at (ps ++ rs) M n && b) (eqb-zero-suc n) ∙ and-false (at (ps ++ rs) M n))
