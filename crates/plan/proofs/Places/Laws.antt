-- Steps by their places in a list.
--
--   stands_some, stands_under      the places of a list are those under its length
--   stands_every         what holds of every step of a list holds at each place
--   stands_kept          what is kept of each step, read at a place
--   at_stands, at_past   a set of steps at a place, and past the end
--   found                a list that has a step of A has it at some place
--   stands_left, stands_split      places of two lists one after the other
--   order_length         the order has a place for each step of the query
--   every_order          what holds of each step of the query holds of each of the order; every_mains, every_predicates: of each part
--   Distinct ps          no two steps of ps have one number; distinct_once: so a number has one place
--
-- Assumes nothing.
use Rattle.std.specs.Prelude.{ℕ, zero, suc, ◌+◌, ◌≤◌, ◌<◌, ◌≡◌, refl, Bool, ◌||◌, ◌⊎◌, length, get_or}
use Rattle.std.proofs.Common.{suc-le-suc, zero-le, le_of_suc-le-suc, arith, sym, ap, ◌∙◌, inl, inr, length-append}
use Rattle.std.proofs.Math.Bool.{true, false}
use Rattle.std.proofs.lemmas.Bool.{false≢true}
use mathlib.Core.List.{List, [], ◌∷◌, ◌++◌, map, reverse, reverse_aux}
use Rattle.std.proofs.lemmas.List.{length-reverse}
use Rattle.meaning.specs.Query.{Step, Query, Steps, Numbered, main_if, main_path}
use Rattle.plan.specs.Every.{Every, e_nil, e_cons, every_append, every_reverse}
use Rattle.plan.specs.Order.{predicate_if, predicates, back_path, order, any_of, at}
use Rattle.plan.specs.Places.{StandsAt, s_here, s_there, numbered}

pub stands_some : (ps : List Numbered) (t : ℕ) → t < length ps → (p : Numbered) × StandsAt ps t p
stands_some [] t l = absurd (omega arith)
stands_some (p ∷ ps) zero l = (p, s_here)
stands_some (p ∷ ps) (suc t) l = let r = stands_some ps t (le_of_suc-le-suc l) in (r.0, s_there r.1)

pub stands_under : {ps : List Numbered} {t : ℕ} {p : Numbered} → StandsAt ps t p → t < length ps
stands_under s_here = suc-le-suc zero-le
stands_under (s_there s) = suc-le-suc (stands_under s)

pub stands_every : {F : Numbered → Type 0} {ps : List Numbered} {t : ℕ} {p : Numbered} → Every F ps → StandsAt ps t p → F p
stands_every e_nil s = elim s [ ]
stands_every (e_cons a t) s_here = a
stands_every (e_cons a t) (s_there s) = stands_every t s

pub stands_kept : {ps : List Numbered} {t : ℕ} {p : Numbered} (kept : Numbered → ℕ) → StandsAt ps t p → get_or (map kept ps) t 0 ≡ kept p
stands_kept kept s_here = refl
stands_kept kept (s_there s) = stands_kept kept s

pub at_stands : {ps : List Numbered} {t : ℕ} {p : Numbered} (A : Steps) → StandsAt ps t p → at ps A t ≡ A p.step p.number
unfolding at
at_stands A s_here = refl
at_stands A (s_there s) = at_stands A s

pub at_past : (ps : List Numbered) (A : Steps) (t : ℕ) → length ps ≤ t → at ps A t ≡ false
unfolding at
at_past [] A t l = refl
at_past (p ∷ ps) A zero l = absurd (omega arith)
at_past (p ∷ ps) A (suc t) l = at_past ps A t (le_of_suc-le-suc l)

pub record FoundAt (ps : List Numbered) (A : Steps) : Type 0 where
  pub place : ℕ
  pub step : Numbered
  pub there : StandsAt ps place step
  pub holds : A step.step step.number ≡ true

pub found : (ps : List Numbered) (A : Steps) → any_of ps A ≡ true → FoundAt ps A
unfolding any_of
found [] A e = absurd (false≢true e)
found (p ∷ ps) A e = go (A p.step p.number) refl e (found ps A)
  where
    go : (b : Bool) → A p.step p.number ≡ b → (b || any_of ps A) ≡ true → (any_of ps A ≡ true → FoundAt ps A) → FoundAt (p ∷ ps) A
    go true is e' rest = record { place = zero; step = p; there = s_here; holds = is }
    go false is e' rest = let f = rest e' in record { place = suc f.place; step = f.step; there = s_there f.there; holds = f.holds }

-- two lists

pub stands_left : (ps rs : List Numbered) {t : ℕ} {p : Numbered} → t < length ps → StandsAt (ps ++ rs) t p → StandsAt ps t p
stands_left [] rs l s = absurd (omega arith)
stands_left (x ∷ ps) rs l s_here = s_here
stands_left (x ∷ ps) rs l (s_there s) = s_there (stands_left ps rs (le_of_suc-le-suc l) s)

pub stands_split :
    (ps rs : List Numbered) {t : ℕ} {p : Numbered} → StandsAt (ps ++ rs) t p → StandsAt ps t p ⊎ ((length ps ≤ t) × ((u : ℕ) × StandsAt rs u p))
stands_split [] rs {t} s = inr (zero-le, (t, s))
stands_split (x ∷ ps) rs s_here = inl s_here
stands_split (x ∷ ps) rs (s_there s) = go (stands_split ps rs s)
  where
    go :
        {t : ℕ} {p : Numbered} → StandsAt ps t p ⊎ ((length ps ≤ t) × ((u : ℕ) × StandsAt rs u p)) →
        StandsAt (x ∷ ps) (suc t) p ⊎ ((suc (length ps) ≤ suc t) × ((u : ℕ) × StandsAt rs u p))
    go (inl s') = inl (s_there s')
    go (inr (l, r)) = inr (suc-le-suc l, r)

-- how many

one_more :
    (b : Bool) (st : Step) (i : ℕ) (ms rs : List Numbered) →
    length (main_if b st i ms) + length (predicate_if b st i rs) ≡ suc (length ms + length rs)
unfolding main_if predicate_if
one_more true st i ms rs = omega arith
one_more false st i ms rs = omega arith

split_length : (q : Query) (i : ℕ) → length (main_path q i) + length (predicates q i) ≡ length q
unfolding main_path predicates
split_length [] i = refl
split_length (st ∷ q) i =
    one_more st.main st i (main_path q (suc i)) (predicates q (suc i)) ∙ ap suc (split_length q (suc i))

pub order_length : (q : Query) → length (order q) ≡ length q
unfolding order back_path
order_length q =
    length-append (back_path q) (predicates q 1) ∙ ap (λ n. n + length (predicates q 1)) (length-reverse (main_path q 1)) ∙ split_length q 1

-- what holds of each step of the query

module _ {F : Numbered → Type 0} where
  every_main_if : (b : Bool) (st : Step) (i : ℕ) {ps : List Numbered} → F (record { step = st; number = i }) → Every F ps → Every F (main_if b st i ps)
  unfolding main_if
  every_main_if true st i a t = e_cons a t
  every_main_if false st i a t = t

  pub every_mains : (q : Query) (i : ℕ) → Every F (numbered q i) → Every F (main_path q i)
  unfolding numbered main_path
  every_mains [] i t = e_nil
  every_mains (st ∷ q) i (e_cons a t) = every_main_if st.main st i a (every_mains q (suc i) t)

  every_predicate_if :
      (b : Bool) (st : Step) (i : ℕ) {ps : List Numbered} → F (record { step = st; number = i }) → Every F ps → Every F (predicate_if b st i ps)
  unfolding predicate_if
  every_predicate_if true st i a t = t
  every_predicate_if false st i a t = e_cons a t

  pub every_predicates : (q : Query) (i : ℕ) → Every F (numbered q i) → Every F (predicates q i)
  unfolding numbered predicates
  every_predicates [] i t = e_nil
  every_predicates (st ∷ q) i (e_cons a t) = every_predicate_if st.main st i a (every_predicates q (suc i) t)

  pub every_order : (q : Query) → Every F (numbered q 1) → Every F (order q)
  unfolding order back_path
  every_order q t = every_append (every_reverse (every_mains q 1 t)) (every_predicates q 1 t)

-- no number twice

abbrev pub Apart : Numbered → Numbered → Type 0
Apart p r = p.number ≡ r.number → ⊥

pub data Distinct : List Numbered → Type 0 where
  d_nil : Distinct []
  d_cons : {p : Numbered} {ps : List Numbered} → Every (Apart p) ps → Distinct ps → Distinct (p ∷ ps)

pub distinct_once :
    {ps : List Numbered} {t u : ℕ} {p r : Numbered} → Distinct ps → StandsAt ps t p → StandsAt ps u r → p.number ≡ r.number →
    t ≡ u
distinct_once d_nil s _ e = elim s [ ]
distinct_once (d_cons a d) s_here s_here e = refl
distinct_once (d_cons a d) s_here (s_there s) e = absurd (stands_every a s e)
distinct_once (d_cons a d) (s_there s) s_here e = absurd (stands_every a s (sym e))
distinct_once (d_cons a d) (s_there s) (s_there v) e = ap suc (distinct_once d s v e)

pub distinct_append : {ps rs : List Numbered} → Distinct ps → Distinct rs → Every (λ p. Every (Apart p) rs) ps → Distinct (ps ++ rs)
distinct_append d_nil e t = e
distinct_append (d_cons a d) e (e_cons b t) = d_cons (every_append a b) (distinct_append d e t)

-- onto a list already turned round
reverse_distinct : {ps rs : List Numbered} → Distinct ps → Distinct rs → Every (λ p. Every (Apart p) rs) ps → Distinct (reverse_aux ps rs)
reverse_distinct d_nil e t = e
reverse_distinct (d_cons {p} a d) e (e_cons b t) = reverse_distinct d (d_cons b e) (onto a t)
  where
    onto : {ps rs : List Numbered} → Every (Apart p) ps → Every (λ r. Every (Apart r) rs) ps → Every (λ r. Every (Apart r) (p ∷ rs)) ps
    onto e_nil e_nil = e_nil
    onto (e_cons f u) (e_cons v w) = e_cons (e_cons (λ x. f (sym x)) v) (onto u w)

pub distinct_reverse : {ps : List Numbered} → Distinct ps → Distinct (reverse ps)
distinct_reverse {ps} d = reverse_distinct d d_nil (apart_none ps)
  where
    apart_none : (ps : List Numbered) → Every (λ p. Every (Apart p) []) ps
    apart_none [] = e_nil
    apart_none (p ∷ ps) = e_cons e_nil (apart_none ps)
