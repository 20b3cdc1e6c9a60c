-- Settling a queue that was settled before is settling all the nodes.
--
--   Steady c p c' p' h xs      along xs, h leads on: certain (c) stays certain (c'), ruled out (not p) stays ruled out (not p'), and what
--                              is certain is not ruled out
--   steady           from the standings before and after, as lists of tests
--   past_later       the queue after a further event can be had from the queue before it
--   front_later      and what is handed out then is what is newly certain at the front
--
-- Assumes nothing; over any type of nodes.
use Rattle.std.specs.Prelude.{ℕ, ◌≡◌, Bool}
use Rattle.std.proofs.Math.Path.{refl, sym, ap, ap₂}
use Rattle.std.proofs.Common.{◌∙◌}
use Rattle.std.proofs.Math.Bool.{true, false}
use mathlib.Core.List.{List, [], ◌∷◌, ◌++◌, map}
use Rattle.meaning.specs.Logic.{Imp, Pmi, Pre, pre_head, pre_tail}
use Rattle.engine.specs.Engine.{keep_if, keep, front_if, front, past_if, past}

module _ {A : Type 0} where
  pub keep_out : (b : Bool) (x : A) (r : List A) → Imp b false → keep_if b x r ≡ r
  unfolding keep_if
  keep_out true x r f = absurd (f.to tt)
  keep_out false x r f = refl

  pub keep_in : (b : Bool) (x : A) (r : List A) → Imp true b → keep_if b x r ≡ x ∷ r
  unfolding keep_if
  keep_in true x r f = refl
  keep_in false x r f = absurd (f.to tt)

  past_certain : (b : Bool) (xs r : List A) → Imp true b → past_if b xs r ≡ r
  unfolding past_if
  past_certain true xs r f = refl
  past_certain false xs r f = absurd (f.to tt)

  front_certain : (b : Bool) (x : A) (r : List A) → Imp true b → front_if b x r ≡ x ∷ r
  unfolding front_if
  front_certain true x r f = refl
  front_certain false x r f = absurd (f.to tt)

module _ {A : Type 0} (c p c' p' : A → Bool) (h : A → A) where
  pub data Steady : List A → Type 0 where
    s_nil : Steady []
    s_cons :
        {x : A} {xs : List A} → Imp (c x) (c' (h x)) → Imp (p' (h x)) (p x) → Imp (c' (h x)) (p' (h x)) → Steady xs → Steady (x ∷ xs)

  pub steady :
      (new xs : List A) → Pre Imp (map c xs) (map c' (map h xs ++ new)) → Pre Pmi (map p xs) (map p' (map h xs ++ new)) →
      Pre Imp (map c' (map h xs ++ new)) (map p' (map h xs ++ new)) → Steady xs
  steady new [] a b d = s_nil
  steady new (x ∷ xs) a b d =
      s_cons (pre_head a) (record { to = (pre_head b).back }) (pre_head d) (steady new xs (pre_tail a) (pre_tail b) (pre_tail d))

  steady_keep_if : (b : Bool) {x : A} {xs : List A} → Steady xs → Steady (x ∷ xs) → Steady (keep_if b x xs)
  unfolding keep_if
  steady_keep_if true t u = u
  steady_keep_if false t u = t

  steady_keep : {xs : List A} → Steady xs → Steady (keep p xs)
  unfolding keep
  steady_keep s_nil = s_nil
  steady_keep (s_cons {x} u v w t) = steady_keep_if (p x) (steady_keep t) (s_cons {x = x} u v w (steady_keep t))

  module _ (new : List A) where
    -- what stays alive, of all or of those alive before
    abbrev later : List A → List A
    later xs = keep p' (map h xs ++ new)

    later_step :
        (b : Bool) (x : A) (ks xs : List A) → Imp (p' (h x)) b → later ks ≡ later xs →
        later (keep_if b x ks) ≡ keep_if (p' (h x)) (h x) (later xs)
    unfolding keep_if keep
    later_step true x ks xs f e = ap (keep_if (p' (h x)) (h x)) e
    later_step false x ks xs f e = e ∙ sym (keep_out (p' (h x)) (h x) _ f)

    later_keep : {xs : List A} → Steady xs → later (keep p xs) ≡ later xs
    unfolding keep
    later_keep s_nil = refl
    later_keep (s_cons {x} {xs} u v w t) = later_step (p x) x (keep p xs) xs v (later_keep t)

    -- a node certain before is kept, and at the front still
    still : {x : A} → Imp true (c' (h x)) → Imp (c' (h x)) (p' (h x)) → Imp true (p' (h x))
    still u w = record { to = λ t. w.to (u.to t) }

    past_step :
        (b : Bool) (x : A) (xs : List A) → Imp b (c' (h x)) → Imp (c' (h x)) (p' (h x)) →
        past c' (later (past c xs)) ≡ past c' (later xs) → past c' (later (past_if b (x ∷ xs) (past c xs))) ≡ past c' (later (x ∷ xs))
    unfolding past_if past keep
    past_step true x xs u w e =
        e
        ∙ sym (ap (past c') (keep_in (p' (h x)) (h x) (later xs) (still u w)) ∙ past_certain (c' (h x)) (h x ∷ later xs) _ u)
    past_step false x xs u w e = refl

    past_past : {xs : List A} → Steady xs → past c' (later (past c xs)) ≡ past c' (later xs)
    unfolding past
    past_past s_nil = refl
    past_past (s_cons {x} {xs} u v w t) = past_step (c x) x xs u w (past_past t)

    pub past_later : {xs : List A} → Steady xs → past c' (later (past c (keep p xs))) ≡ past c' (later xs)
    past_later t = past_past (steady_keep t) ∙ ap (past c') (later_keep t)

    module _ (no : A → ℕ) (kept : (x : A) → no (h x) ≡ no x) where
      front_step :
          (b : Bool) (x : A) (xs : List A) → Imp b (c' (h x)) → Imp (c' (h x)) (p' (h x)) →
          map no (front c xs) ++ map no (front c' (later (past c xs))) ≡ map no (front c' (later xs)) →
          map no (front_if b x (front c xs)) ++ map no (front c' (later (past_if b (x ∷ xs) (past c xs)))) ≡ map no (front c' (later (x ∷ xs)))
      unfolding front_if past_if front keep
      front_step true x xs u w e =
          ap₂ ◌∷◌ (sym (kept x)) e
          ∙ ap (map no)
          (sym (ap (front c') (keep_in (p' (h x)) (h x) (later xs) (still u w)) ∙ front_certain (c' (h x)) (h x) _ u))
      front_step false x xs u w e = refl

      front_past :
          {xs : List A} → Steady xs → map no (front c xs) ++ map no (front c' (later (past c xs))) ≡ map no (front c' (later xs))
      unfolding front past
      front_past s_nil = refl
      front_past (s_cons {x} {xs} u v w t) = front_step (c x) x xs u w (front_past t)

      pub front_later :
          {xs : List A} → Steady xs →
          map no (front c (keep p xs)) ++ map no (front c' (later (past c (keep p xs)))) ≡ map no (front c' (later xs))
      front_later t = front_past (steady_keep t) ∙ ap (λ x. map no (front c' x)) (later_keep t)
