-- Steps by their numbers, and what the query rules give.
--
--   any_intro, any_elim, all_intro, all_elim    any_step and all_step, by the steps they speak of
--   at_unique                a number has one step
--   Tail ps qs               ps is an end of qs
--   Chain q i near ps        the main-path steps ps of q: the first hangs on `near`, each next on the one before it
--   path_chain               an admitted query's main path is such a chain, from 0
--   path_some                it is not empty
--   tail_on, tail_parent     what the chain says of a step on it, and of two steps one after the other
--   tail_last, last_tail     the last step of a path
--   admits_at                what the rules say of one step
--
-- Assumes of a query what its lemmas say: at most `T (admits q)`.
use Rattle.std.specs.Prelude.{ℕ, suc, ◌<◌, ◌≤◌, ◌⊎◌, ◌≡◌, refl, Bool, true, false, not, List, [], ◌∷◌, leb, T}
use Rattle.std.proofs.Common.{arith, inl, inr, sym, subst, eqb→eq, leb→le, ltb→lt}
use Rattle.meaning.specs.Logic.{and_l, and_r, and_i, or_l, or_r, or_case}
use Rattle.meaning.specs.Name.{last_name}
use Rattle.meaning.specs.Query.{Step, Query, At, here, there, Steps, any_step, all_step, Numbered}
use Rattle.meaning.specs.Query.{main_if, main_path, last_of, hangs_right, nearer, rules, is_empty, admits}

pub record FoundStep (q : Query) (i : ℕ) (h : Steps) : Type 0 where
  pub step : Step
  pub number : ℕ
  pub at : At q i step number
  pub holds : T (h step number)

pub any_intro : {q : Query} {i j : ℕ} {st : Step} (h : Steps) → At q i st j → T (h st j) → T (any_step q i h)
unfolding any_step
any_intro h (here {i} {t}) u = or_l (h t i) _ u
any_intro h (there {i} {st} a) u = or_r (h st i) _ (any_intro h a u)

pub any_elim : (q : Query) (i : ℕ) (h : Steps) → T (any_step q i h) → FoundStep q i h
unfolding any_step
any_elim [] i h t = absurd t
any_elim (st ∷ q) i h t = go (or_case (h st i) (any_step q (suc i) h) t) (any_elim q (suc i) h)
  where
    go : T (h st i) ⊎ T (any_step q (suc i) h) → (T (any_step q (suc i) h) → FoundStep q (suc i) h) → FoundStep (st ∷ q) i h
    go (inl u) f = record { step = st; number = i; at = here; holds = u }
    go (inr u) f = let r = f u in record { step = r.step; number = r.number; at = there r.at; holds = r.holds }

pub all_intro : (q : Query) (i : ℕ) (h : Steps) → ((st : Step) (j : ℕ) → At q i st j → T (h st j)) → T (all_step q i h)
unfolding all_step
all_intro [] i h f = tt
all_intro (st ∷ q) i h f = and_i (h st i) _ (f st i here) (all_intro q (suc i) h (λ t j a. f t j (there a)))

pub all_elim : {q : Query} {i j : ℕ} {st : Step} (h : Steps) → T (all_step q i h) → At q i st j → T (h st j)
unfolding all_step
all_elim h u (here {i} {t}) = and_l (h t i) _ u
all_elim h u (there {i} {st} a) = all_elim h (and_r (h st i) _ u) a

pub at_least : {q : Query} {i j : ℕ} {st : Step} → At q i st j → i ≤ j
at_least (here {i}) = omega arith
at_least (there {i} {j} a) = let h : suc i ≤ j = at_least a in omega arith

step_at_one_place : {q : Query} {i j k : ℕ} {s t : Step} → At q i s j → At q i t k → j ≡ k → s ≡ t
step_at_one_place here here e = refl
step_at_one_place here (there {i} a) e = let h : suc i ≤ _ = at_least a in absurd (omega (arith, e))
step_at_one_place (there {i} a) here e = let h : suc i ≤ _ = at_least a in absurd (omega (arith, e))
step_at_one_place (there a) (there b) e = step_at_one_place a b e

pub at_unique : {q : Query} {i j : ℕ} {s t : Step} → At q i s j → At q i t j → s ≡ t
at_unique a b = step_at_one_place a b refl

-- the main path
pub data Tail {A : Type 0} : List A → List A → Type 0 where
  whole : {ps : List A} → Tail ps ps
  less : {x : A} {ps qs : List A} → Tail (x ∷ ps) qs → Tail ps qs

pub record OnPath (q : Query) (i : ℕ) (p : Numbered) : Type 0 where
  pub at : At q i p.step p.number
  pub main : T p.step.main

-- each is on the path, the first hangs on `near`, each next on the one before
pub data Chain (q : Query) (i : ℕ) : ℕ → List Numbered → Type 0 where
  c_nil : {near : ℕ} → Chain q i near []
  c_cons : {near : ℕ} {p : Numbered} {ps : List Numbered} → OnPath q i p → p.step.parent ≡ near → Chain q i p.number ps → Chain q i near (p ∷ ps)

chain_there : {st : Step} {q : Query} {i near : ℕ} {ps : List Numbered} → Chain q (suc i) near ps → Chain (st ∷ q) i near ps
chain_there c_nil = c_nil
chain_there (c_cons o e c) = c_cons (record { at = there o.at; main = o.main }) e (chain_there c)

main_chain : (q : Query) (i near : ℕ) → T (rules q i near) → Chain q i near (main_path q i)
unfolding rules main_path hangs_right nearer main_if
main_chain [] i near t = c_nil
main_chain (st ∷ q) i near t = go st.main refl (and_l (hangs_right st.main st.parent i near) _ t) (main_chain q (suc i) (nearer st.main i near) rest)
  where
    rest : T (rules q (suc i) (nearer st.main i near))
    rest = and_r (leb st.name last_name) _ (and_r (hangs_right st.main st.parent i near) _ t)

    go :
        (b : Bool) → st.main ≡ b → T (hangs_right b st.parent i near) → Chain q (suc i) (nearer b i near) (main_path q (suc i)) →
        Chain (st ∷ q) i near (main_if b st i (main_path q (suc i)))
    go true e h c = c_cons (record { at = here; main = subst T (sym e) tt }) (eqb→eq st.parent near h) (chain_there c)
    go false e h c = chain_there c

-- what an admitted query's path is like
abbrev pub path : Query → List Numbered
path q = main_path q 1

pub path_chain : (q : Query) → T (admits q) → Chain q 1 0 (path q)
unfolding admits
path_chain q t = main_chain q 1 0 (and_r (not (is_empty q)) _ t)

module _ {q : Query} {i : ℕ} where
  -- the chain from any end of the path on
  pub tail_chain : {near : ℕ} {ps qs : List Numbered} → Chain q i near qs → Tail ps qs → (n : ℕ) × Chain q i n ps
  tail_chain {near} c whole = (near, c)
  tail_chain c (less {x} {ps} t) = go (tail_chain c t)
    where
      go : ((n : ℕ) × Chain q i n (x ∷ ps)) → (n : ℕ) × Chain q i n ps
      go s = (x.number, drop_head s.1)
        where
          drop_head : {n : ℕ} → Chain q i n (x ∷ ps) → Chain q i x.number ps
          drop_head (c_cons o e c') = c'

  chain_on : {near : ℕ} {p : Numbered} {ps : List Numbered} → Chain q i near (p ∷ ps) → OnPath q i p
  chain_on (c_cons o e c) = o

  chain_parent : {near : ℕ} {p : Numbered} {ps : List Numbered} → Chain q i near (p ∷ ps) → p.step.parent ≡ near
  chain_parent (c_cons o e c) = e

  chain_rest : {near : ℕ} {p : Numbered} {ps : List Numbered} → Chain q i near (p ∷ ps) → Chain q i p.number ps
  chain_rest (c_cons o e c) = c

  pub tail_on : {near : ℕ} {p : Numbered} {ps qs : List Numbered} → Chain q i near qs → Tail (p ∷ ps) qs → OnPath q i p
  tail_on c t = chain_on (tail_chain c t).1

  pub first_parent : {near : ℕ} {p : Numbered} {ps qs : List Numbered} → Chain q i near qs → qs ≡ p ∷ ps → p.step.parent ≡ near
  first_parent {near} c e = chain_parent (subst (Chain q i near) e c)

  pub tail_parent :
      {near : ℕ} {p p' : Numbered} {ps qs : List Numbered} → Chain q i near qs → Tail (p ∷ p' ∷ ps) qs → p'.step.parent ≡ p.number
  tail_parent c t = chain_parent (chain_rest (tail_chain c t).1)

pub tail_last : {p : Numbered} {ps qs : List Numbered} (l : ℕ) → Tail (p ∷ ps) qs → last_of qs l ≡ last_of ps p.number
unfolding last_of
tail_last l whole = refl
tail_last l (less t) = tail_last l t

tail_cons : {A : Type 0} {x : A} {ps qs : List A} → Tail ps qs → Tail ps (x ∷ qs)
tail_cons whole = less whole
tail_cons (less t) = less (tail_cons t)

pub last_tail : {A : Type 0} (p : A) (ps : List A) → (l : A) × Tail (l ∷ []) (p ∷ ps)
last_tail p [] = (p, whole)
last_tail p (p' ∷ ps) = let r = last_tail p' ps in (r.0, tail_cons r.1)

-- a path's first step stands before no other
pub tail_first : {A : Type 0} {p : A} {ps qs : List A} → Tail (p ∷ ps) qs → (qs ≡ p ∷ ps) ⊎ ((x : A) × Tail (x ∷ p ∷ ps) qs)
tail_first whole = inl refl
tail_first (less {x} t) = inr (x, t)

-- the rules, step by step
pub record Ruled (st : Step) (j : ℕ) : Type 0 where
  pub near : ℕ
  pub hangs : T (hangs_right st.main st.parent j near)
  pub name : T (leb st.name last_name)

pub rules_at : {q : Query} {i j : ℕ} {st : Step} (near : ℕ) → T (rules q i near) → At q i st j → Ruled st j
unfolding rules
rules_at near t (here {i} {t = st}) =
    record {
      near = near;
      hangs = and_l (hangs_right st.main st.parent i near) _ t;
      name = and_l (leb st.name last_name) _ (and_r (hangs_right st.main st.parent i near) _ t);
    }
rules_at near t (there {i} {st} a) =
    rules_at (nearer st.main i near) (and_r (leb st.name last_name) _ (and_r (hangs_right st.main st.parent i near) _ t)) a

pub admits_at : {q : Query} {j : ℕ} {st : Step} → T (admits q) → At q 1 st j → Ruled st j
unfolding admits
admits_at {q} t a = rules_at 0 (and_r (not (is_empty q)) _ t) a

-- an admitted query has a main path: its first step is on it
pub data Starts (q : Query) : List Numbered → Type 0 where
  starts : {p : Numbered} {ps : List Numbered} → OnPath q 1 p → p.step.parent ≡ 0 → Starts q (p ∷ ps)

pub path_some : (q : Query) → T (admits q) → Starts q (path q)
unfolding admits is_empty rules main_path main_if hangs_right
path_some [] t = absurd t
path_some (st ∷ q) t = go st.main refl (and_l (hangs_right st.main st.parent 1 0) _ t)
  where
    go : (b : Bool) → st.main ≡ b → T (hangs_right b st.parent 1 0) → Starts (st ∷ q) (main_if b st 1 (main_path q 2))
    go true e h = starts (record { at = here; main = subst T (sym e) tt }) (eqb→eq st.parent 0 h)
    go false e h =
        let l : 1 ≤ st.parent = leb→le 1 st.parent (and_l (leb 1 st.parent) _ h) in
        let u : st.parent < 1 = ltb→lt st.parent 1 (and_r (leb 1 st.parent) _ h) in
        absurd (omega arith)

pub starts_last : {q : Query} {ps : List Numbered} → Starts q ps → (l : Numbered) × Tail (l ∷ []) ps
starts_last (starts {p} {ps} o e) = last_tail p ps
