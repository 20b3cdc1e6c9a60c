-- The places of a query's steps, and when a plan is right.
--
--   StandsAt ps t p       p stands at place t of the list ps
--   numbered q i        the steps of q with their numbers, the first having number i
--   mains q             how many main-path steps q has
--   OrderRight q        the order of q: each step of q has one place, the main path comes first, from its last step to its first
--   PlanRight q P       P keeps of each step what document 01 says of it, at its place
--
-- Assumes nothing. NOT here: that the order and the plan of an admitted query are right (Places.Order, Places.Plan).
use Rattle.std.specs.Prelude.{ℕ, zero, suc, pred, ◌^◌, ◌<◌, ◌≡◌, true, false, List, [], ◌∷◌, ◌↔◌, ltb, length, get_or}
use Rattle.meaning.specs.Query.{Step, Query, At, Numbered, hangs, goes_deep, last_main}
use Rattle.sets.specs.Set.{member, one}
use Rattle.plan.specs.Order.{back_path, order}
use Rattle.plan.specs.Plan as Of

pub data StandsAt : List Numbered → ℕ → Numbered → Type 0 where
  s_here : {p : Numbered} {ps : List Numbered} → StandsAt (p ∷ ps) zero p
  s_there : {p r : Numbered} {ps : List Numbered} {t : ℕ} → StandsAt ps t p → StandsAt (r ∷ ps) (suc t) p

unfoldable pub numbered : Query → ℕ → List Numbered
numbered [] i = []
numbered (st ∷ q) i = record { step = st; number = i } ∷ numbered q (suc i)

abbrev pub mains : Query → ℕ
mains q = length (back_path q)

pub record OrderRight (q : Query) : Type 0 where
  -- a place for each step, a step at each place, and no step twice
  pub each : {st : Step} {i : ℕ} → At q 1 st i → (t : ℕ) × StandsAt (order q) t (record { step = st; number = i })
  pub only : {t : ℕ} {p : Numbered} → StandsAt (order q) t p → At q 1 p.step p.number
  pub once : {t u : ℕ} {p r : Numbered} → StandsAt (order q) t p → StandsAt (order q) u r → p.number ≡ r.number → t ≡ u
  pub all : (t : ℕ) → t < length q → (p : Numbered) × StandsAt (order q) t p
  -- the main path is at the first places
  pub front : {t : ℕ} {p : Numbered} → StandsAt (order q) t p → p.step.main ≡ ltb t (mains q)
  -- "The last main-path step is the one whose nodes are listed": it is at place 0
  pub last : {p : Numbered} → StandsAt (order q) 0 p → p.number ≡ last_main q
  -- "each next in its axis to the one before": the step after the one at place t + 1 is at place t
  pub next : {t : ℕ} {p r : Numbered} → suc t < mains q → StandsAt (order q) (suc t) p → StandsAt (order q) t r → r.step.parent ≡ p.number
  -- "the first stands in its axis to the document"
  pub start : {t : ℕ} {p : Numbered} → suc t ≡ mains q → StandsAt (order q) t p → p.step.parent ≡ 0

pub record PlanRight (q : Query) (P : Of.Plan) : Type 0 where
  pub steps : length P.tests ≡ length q
  pub sets : length P.hung ≡ length q
  pub name : {t : ℕ} {p : Numbered} → StandsAt (order q) t p → get_or P.tests t 0 ≡ p.step.name
  -- the predicate steps that hang on a step
  pub hung :
      {t u : ℕ} {p r : Numbered} → StandsAt (order q) t p → StandsAt (order q) u r →
      member (get_or P.hung t 0) u ≡ hangs r.step p.number
  pub deep : {t : ℕ} {p : Numbered} → StandsAt (order q) t p → member P.deep t ≡ goes_deep p.step.axis
  pub main : (t : ℕ) → member P.main t ≡ ltb t (mains q)
  -- no predicate hangs on it
  pub plain :
      {t : ℕ} {p : Numbered} → StandsAt (order q) t p →
      (member P.plain t ≡ true) ↔ ((u : ℕ) (r : Numbered) → StandsAt (order q) u r → hangs r.step p.number ≡ false)
  pub first : P.first ≡ one (pred (mains q))
  -- no bit past the last step
  pub hung_under : (t : ℕ) → get_or P.hung t 0 < 2 ^ length q
  pub deep_under : P.deep < 2 ^ length q
  pub plain_under : P.plain < 2 ^ length q
