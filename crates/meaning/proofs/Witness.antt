-- A row of elements that meets every predicate step of a query: what a continuation adds to select what may be selected.
--
--   name_for t          a name that passes the name test t
--   witness q i c      for each step of q that passes c an element that meets it, q's first step having number i
--   witnesses q        for each predicate step of q an element that meets it
--   witnesses_serve    they do;  witnesses_named: their names are elements' names
--
-- Recursion is on the rest of the query: a predicate hangs on an earlier step, so what an element needs below it comes later.
-- Assumes of the query `T (admits q)`.
use Rattle.std.specs.Prelude.{ℕ, zero, suc, ◌<◌, ◌≡◌, Bool, eqb, leb}
use native.Mathlib.Omega.{arith}
use Rattle.std.proofs.Math.Path.{refl}
use Rattle.std.proofs.Common.{subst, le→leb}
use Rattle.std.proofs.Math.Bool.{true, false, not}
use mathlib.Core.List.{[], ◌∷◌}
use Rattle.std.proofs.Math.Dec.{T, eqb→eq, eqb_refl, ltb→lt}
use Rattle.meaning.specs.Logic.{and_l, and_r, and_i, or_l, or_r, or_not}
use Rattle.meaning.specs.Name.{last_name, star, is_name, passes}
use Rattle.meaning.specs.Query.{Step, Query, At, here, there, Steps, hangs, hangs_right, admits}
use Rattle.meaning.proofs.Query.Laws.{all_intro, Ruled, admits_at}
use Rattle.meaning.specs.Document.{Node, Row, nil, el}
use Rattle.meaning.specs.Selection.{named, meets, join, lift, met_row}
use Rattle.meaning.specs.Completion.{named_row}
use Rattle.meaning.proofs.Completion.Laws.{Serves}

unfoldable pub name_for : ℕ → ℕ
name_for zero = 1
name_for (suc n) = suc n

unfoldable pub put_if : Bool → Row → Node → Row → Row
put_if true p x k = el p x k
put_if false p x k = p

unfoldable pub witness : Query → ℕ → (Step → Bool) → Row
witness [] i c = nil
witness (st ∷ q) i c =
    put_if (c st) (witness q (suc i) c) (record { name = name_for st.name }) (witness q (suc i) (λ t. hangs t i))

unfoldable pub witnesses : Query → Row
witnesses q = witness q 1 (λ t. not t.main)

name_for_passes : (n : ℕ) → T (passes n (name_for n))
unfolding name_for passes
name_for_passes zero = tt
name_for_passes (suc n) = or_r (eqb (suc n) star) _ (eqb_refl (suc n))

name_for_is_name : (n : ℕ) → T (leb n last_name) → T (is_name (name_for n))
unfolding name_for is_name
name_for_is_name zero t = tt
name_for_is_name (suc n) t = and_i (leb 1 (suc n)) _ (one_le n) t
  where
    one_le : (n : ℕ) → T (leb 1 (suc n))
    one_le n = le→leb 1 (suc n) (omega arith)

-- a step of the whole query stands before the rest, or in it
data Placed (q : Query) (i : ℕ) (t : Step) (j : ℕ) : Type 0 where
  before : j < i → Placed q i t j
  within : At q i t j → Placed q i t j

placed_next : {st : Step} {q : Query} {i : ℕ} {t : Step} {j : ℕ} → Placed (st ∷ q) i t j → Placed q (suc i) t j
placed_next (before h) = before (omega arith)
placed_next (within here) = before (omega arith)
placed_next (within (there a)) = within a

module _ (Q : Query) (ok : T (admits Q)) where
  abbrev RestOf : Query → ℕ → Type 0
  RestOf q i = (t : Step) (j : ℕ) → At Q 1 t j → Placed q i t j

  -- a predicate that hangs on step i comes after it
  hangs_later : (t : Step) (i j : ℕ) → At Q 1 t j → T (hangs t i) → i < j
  unfolding hangs hangs_right
  hangs_later t i j a h = go t.main refl (admits_at ok a)
    where
      go : (b : Bool) → t.main ≡ b → Ruled t j → i < j
      go true e r = absurd (subst (λ b. T (not b)) e (and_l (not t.main) _ h))
      go false e r =
          let u : t.parent < j = ltb→lt t.parent j (and_r (leb 1 t.parent) _ (subst (λ b. T (hangs_right b t.parent j r.near)) e r.hangs)) in
          let p : t.parent ≡ i = eqb→eq t.parent i (and_r (not t.main) _ h) in
          omega arith

  hangs_in_rest : (q : Query) (i : ℕ) → RestOf q (suc i) → (t : Step) (j : ℕ) → At Q 1 t j → T (hangs t i) → At q (suc i) t j
  hangs_in_rest q i rest t j a h = go (rest t j a)
    where
      later : i < j
      later = hangs_later t i j a h

      go : Placed q (suc i) t j → At q (suc i) t j
      go (within b) = b
      go (before b) = absurd (omega (arith, later))

  met_put_if : (b : Bool) (p : Row) (x : Node) (k : Row) (t : Step) (j : ℕ) → T (met_row Q p t j) → T (met_row Q (put_if b p x k) t j)
  unfolding met_row put_if join
  met_put_if true p x k t j u = or_l (met_row Q p t j) _ u
  met_put_if false p x k t j u = u

  met_put : (b : Bool) (p : Row) (x : Node) (k : Row) (t : Step) (j : ℕ) → T b → T (meets Q false x (met_row Q k) t j) → T (met_row Q (put_if b p x k) t j)
  unfolding met_row put_if join lift
  met_put true p x k t j h u = or_r (met_row Q p t j) _ (or_l (meets Q false x (met_row Q k) t j) _ u)
  met_put false p x k t j h u = absurd h

  -- an element with the right name, in whose content each predicate is met, meets the step
  meets_put :
      (x : Node) (K : Steps) (st : Step) (i : ℕ) → T (passes st.name x.name) →
      ((t : Step) (j : ℕ) → At Q 1 t j → T (hangs t i) → T (K t j)) → T (meets Q false x K st i)
  unfolding meets named
  meets_put x K st i n f = and_i (passes st.name x.name) _ n (all_intro Q 1 _ (λ t j a. or_not (hangs t i) _ (f t j a)))

  witness_meets :
      (q : Query) (i : ℕ) → RestOf q i → (c : Step → Bool) (t : Step) (j : ℕ) → At q i t j → T (c t) → T (met_row Q (witness q i c) t j)
  unfolding witness
  witness_meets [] i rest c t j a h = elim a [ ]
  witness_meets (st ∷ q) i rest c t j (there a) h =
      met_put_if (c st) _ _ _ t j (witness_meets q (suc i) (λ u l b. placed_next (rest u l b)) c t j a h)
  witness_meets (st ∷ q) i rest c t j here h =
      met_put (c st) _ _ _ st i h
      (meets_put _ _ st i (name_for_passes st.name)
      (λ u l a e.
      witness_meets q (suc i) (λ w k b. placed_next (rest w k b)) (λ w. hangs w i) u l
      (hangs_in_rest q i (λ w k b. placed_next (rest w k b)) u l a e) e))

  pub witnesses_serve : Serves Q (witnesses Q)
  unfolding witnesses
  witnesses_serve t j a h = witness_meets Q 1 (λ u l b. within b) (λ u. not u.main) t j a h

  named_put_if : (b : Bool) (p : Row) (x : Node) (k : Row) → T (named_row p) → T (is_name x.name) → T (named_row k) → T (named_row (put_if b p x k))
  unfolding named_row put_if
  named_put_if true p x k t u v = and_i (named_row p) _ t (and_i (is_name x.name) _ u v)
  named_put_if false p x k t u v = t

  witness_named : (q : Query) (i : ℕ) → ((t : Step) (j : ℕ) → At q i t j → T (leb t.name last_name)) → (c : Step → Bool) → T (named_row (witness q i c))
  unfolding witness named_row
  witness_named [] i f c = tt
  witness_named (st ∷ q) i f c =
      named_put_if (c st) _ _ _ (witness_named q (suc i) (λ t j a. f t j (there a)) c) (name_for_is_name st.name (f st i here))
      (witness_named q (suc i) (λ t j a. f t j (there a)) (λ t. hangs t i))

  pub witnesses_named : T (named_row (witnesses Q))
  unfolding witnesses
  witnesses_named = witness_named Q 1 (λ t j a. (admits_at ok a).name) (λ t. not t.main)
