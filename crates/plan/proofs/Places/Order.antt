-- The order of an admitted query is right.
--
--   order_at          each step of the order is the query's step of its number
--   order_distinct    no two of them have one number
--   mains_some        an admitted query has a main-path step
--   order_right       the order of an admitted query is right
--
-- Assumes nothing but, in the end, the rules.
use Rattle.std.specs.Prelude.{ℕ, suc, ◌<◌, ◌≤◌, ◌≡◌, refl, Bool, true, false, List, [], ◌∷◌, ◌⊎◌, T, eqb, length}
use Rattle.std.proofs.Common.{suc-le-suc, zero-le, arith, ap, ap₂, ◌∙◌, subst, true≢false, inl, inr, eqb-true, eq-eqb, lt-ltb, le-ltb}
use Rattle.std.proofs.Math.Path.{sym}
use Rattle.std.proofs.Math.Dec.{ltb}
use Rattle.meaning.specs.Logic.{is_true}
use Rattle.meaning.specs.Query.{Step, Query, At, here, there, Numbered, main_if, main_path, admits}
use Rattle.meaning.proofs.Query.Laws.{any_intro, at_least, at_unique}
use Rattle.plan.specs.Every.{Every, e_nil, e_cons, every_map, every_reverse, every_both}
use Rattle.plan.specs.Order.{predicate_if, predicates, back_path, order}
use Rattle.plan.specs.Order.All.{path_main, predicates_main, any_order}
use Rattle.plan.specs.Order.Path.{Linked, ends, links, path_linked, last_main_positive}
use Rattle.plan.specs.Places.{StandsAt, s_here, s_there, numbered, mains, OrderRight}
use Rattle.plan.proofs.Places.Laws.{stands_some, stands_under, stands_every, FoundAt, found, stands_left, stands_split}
use Rattle.plan.proofs.Places.Laws.{order_length, every_mains, every_predicates, every_order}
use Rattle.plan.proofs.Places.Laws.{Apart, Distinct, d_nil, d_cons, distinct_once, distinct_append, distinct_reverse}

abbrev InQuery : Query → ℕ → Numbered → Type 0
InQuery q i p = At q i p.step p.number

-- each is the query's

numbered_in : (q : Query) (i : ℕ) → Every (InQuery q i) (numbered q i)
unfolding numbered
numbered_in [] i = e_nil
numbered_in (st ∷ q) i = e_cons here (every_map (λ p a. there a) (numbered_in q (suc i)))

pub order_at : (q : Query) → Every (InQuery q 1) (order q)
order_at q = every_order q (numbered_in q 1)

-- no number twice

later_apart : (q : Query) (st : Step) (i : ℕ) (p : Numbered) → InQuery q (suc i) p → Apart (record { step = st; number = i }) p
later_apart q st i p a e = let h : suc i ≤ p.number = at_least a in absurd (omega arith)

main_distinct :
    (b : Bool) (st : Step) (i : ℕ) (q : Query) {ps : List Numbered} → Every (InQuery q (suc i)) ps → Distinct ps →
    Distinct (main_if b st i ps)
unfolding main_if
main_distinct true st i q t d = d_cons (every_map (later_apart q st i) t) d
main_distinct false st i q t d = d

mains_distinct : (q : Query) (i : ℕ) → Distinct (main_path q i)
unfolding main_path
mains_distinct [] i = d_nil
mains_distinct (st ∷ q) i = main_distinct st.main st i q (every_mains q (suc i) (numbered_in q (suc i))) (mains_distinct q (suc i))

predicate_distinct :
    (b : Bool) (st : Step) (i : ℕ) (q : Query) {ps : List Numbered} → Every (InQuery q (suc i)) ps → Distinct ps →
    Distinct (predicate_if b st i ps)
unfolding predicate_if
predicate_distinct true st i q t d = d
predicate_distinct false st i q t d = d_cons (every_map (later_apart q st i) t) d

predicates_distinct : (q : Query) (i : ℕ) → Distinct (predicates q i)
unfolding predicates
predicates_distinct [] i = d_nil
predicates_distinct (st ∷ q) i = predicate_distinct st.main st i q (every_predicates q (suc i) (numbered_in q (suc i))) (predicates_distinct q (suc i))

record Role (q : Query) (b : Bool) (p : Numbered) : Type 0 where
  at : At q 1 p.step p.number
  main : p.step.main ≡ b

roles_apart : (q : Query) (p r : Numbered) → Role q true p → Role q false r → Apart p r
roles_apart q p r m o e =
    true≢false (sym m.main ∙ ap (λ st. st.main) (at_unique (subst (At q 1 p.step) e m.at) o.at) ∙ o.main)

both_roles : (q : Query) (b : Bool) (p : Numbered) → InQuery q 1 p → p.step.main ≡ b → Role q b p
both_roles q b p a e = record { at = a; main = e }

pub order_distinct : (q : Query) → Distinct (order q)
unfolding order back_path
order_distinct q =
    distinct_append (distinct_reverse (mains_distinct q 1)) (predicates_distinct q 1)
    (every_map (λ p m. every_map (λ r o. roles_apart q p r m o) others) on_main)
  where
    on_main : Every (Role q true) (back_path q)
    on_main = every_both (both_roles q true) (every_reverse (every_mains q 1 (numbered_in q 1))) (path_main q)

    others : Every (Role q false) (predicates q 1)
    others = every_both (both_roles q false) (every_predicates q 1 (numbered_in q 1)) (predicates_main q 1)

-- along the path

linked_some : {near : ℕ} {ps : List Numbered} → 0 < near → Linked near ps → 0 < length ps
linked_some h (ends e) = absurd (omega arith)
linked_some h (links e d k l) = suc-le-suc zero-le

linked_last : {near : ℕ} {ps : List Numbered} {p : Numbered} → Linked near ps → StandsAt ps 0 p → p.number ≡ near
linked_last (ends _) s = elim s [ ]
linked_last (links e d k l) s_here = sym e

linked_next :
    {near t : ℕ} {ps : List Numbered} {p r : Numbered} → Linked near ps → StandsAt ps (suc t) p → StandsAt ps t r →
    r.step.parent ≡ p.number
linked_next (ends _) s _ = elim s [ ]
linked_next (links e d k l) (s_there s) s_here = d ∙ sym (linked_last l s)
linked_next (links e d k l) (s_there s) (s_there u) = linked_next l s u

linked_start : {near t : ℕ} {ps : List Numbered} {p : Numbered} → Linked near ps → suc t ≡ length ps → StandsAt ps t p → p.step.parent ≡ 0
linked_start (ends _) l s = elim s [ ]
linked_start (links e d k (ends none)) l s_here = d ∙ none
linked_start (links e d k (links e' d' k' l')) l s_here = absurd (omega arith)
linked_start (links e d k r) l (s_there s) = linked_start r (omega arith) s

-- the order

module _ (q : Query) where
  order_each : {st : Step} {i : ℕ} → At q 1 st i → (t : ℕ) × StandsAt (order q) t (record { step = st; number = i })
  order_each {st} {i} a =
      let some = any_intro (λ u j. eqb j i) a (subst T (sym (eq-eqb i i refl)) tt) in
      let f : FoundAt (order q) (λ u j. eqb j i) = found (order q) (λ u j. eqb j i) (sym (any_order q (λ u j. eqb j i)) ∙ is_true _ some) in
      let number : f.step.number ≡ i = eqb-true _ _ f.holds in
      let step : f.step.step ≡ st = at_unique (subst (At q 1 f.step.step) number (stands_every (order_at q) f.there)) a in
      (f.place, subst (StandsAt (order q) f.place) (ap₂ (λ s n. record { step = s; number = n }) step number) f.there)

  order_front : {t : ℕ} {p : Numbered} → StandsAt (order q) t p → p.step.main ≡ ltb t (mains q)
  unfolding order
  order_front {t} {p} s = go (stands_split (back_path q) (predicates q 1) s)
    where
      go : StandsAt (back_path q) t p ⊎ ((mains q ≤ t) × ((u : ℕ) × StandsAt (predicates q 1) u p)) → p.step.main ≡ ltb t (mains q)
      go (inl on) = stands_every (path_main q) on ∙ sym (lt-ltb t (mains q) (stands_under on))
      go (inr (l, (u, off))) = stands_every (predicates_main q 1) off ∙ sym (le-ltb t (mains q) l)

  on_path : {t : ℕ} {p : Numbered} → t < mains q → StandsAt (order q) t p → StandsAt (back_path q) t p
  unfolding order
  on_path l s = stands_left (back_path q) (predicates q 1) l s

pub mains_some : (q : Query) → T (admits q) → 0 < mains q
mains_some q a = linked_some (last_main_positive q a) (path_linked q a)

pub order_right : (q : Query) → T (admits q) → OrderRight q
order_right q a =
    record {
      each = order_each q;
      only = λ s. stands_every (order_at q) s;
      once = λ s u e. distinct_once (order_distinct q) s u e;
      all = λ t l. stands_some (order q) t (omega (arith, order_length q));
      front = order_front q;
      last = λ s. linked_last (path_linked q a) (on_path q (mains_some q a) s);
      next = λ l s u. linked_next (path_linked q a) (on_path q l s) (on_path q (omega arith) u);
      start = λ e s. linked_start (path_linked q a) e (on_path q (omega arith) s);
    }
