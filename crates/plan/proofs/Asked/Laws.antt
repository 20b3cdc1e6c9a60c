-- The steps told by buckets are those that a name passes. For any number of steps, any tests and any number of buckets.
--
--   bucket_says        a bucket says the place of each step that asks for a name of it, or m;  bucket_most: m at most
--   bucket_none        it says 0 if no step does, and bucket_several: m only if two do
--   own_compared       so each step that is no star is compared with its own name
--   quick_plain        THE LAW: on what is kept for tests, quick tells the steps whose tests the name passes
--   test_kept          and the test of each step that it goes by is the one that was kept
--   quick_tests        on anything that is kept, quick tells the steps whose tests test_of the name passes
--   quick_none, quick_one, quick_all      what quick tells for no name, and for a name that is compared with one step or with all
--   test_same          what is kept alike for a step gives it one test
--
-- Assumes that there are at most m steps and that m is not 0, and for quick_tests a name of 4 bytes.
use Prim.Native.Nat.{ℕ, zero, suc, ◌+◌, ◌%◌, ◌≤◌, ◌<◌}
use Rattle.std.proofs.Common.{zero-add, ◌∙◌, subst, true≢false}
use native.Mathlib.Omega.{arith}
use Rattle.std.specs.Prelude.{◌≡◌, Bool, ◌&&◌, ◌||◌, ◌⊎◌, get_or}
use Rattle.std.proofs.Math.Path.{refl, sym, ap, ap₂}
use Rattle.std.proofs.Math.Bool.{true, false, not, cond, and-true, and-false, or-true, or-false}
use Rattle.std.proofs.Math.Logic.{inl, inr}
use mathlib.Core.List.{List, [], ◌∷◌}
use Rattle.std.proofs.Math.Dec.{eqb, ltb}
use Rattle.std.proofs.Math.ListN.{length}
use borrow.Author.Tests.{eqb-true, eqb-false, eq-eqb, ne_eqb, lt-ltb, le-ltb}
use Rattle.meaning.specs.Name.{star, passes}
use Rattle.sets.specs.Set.{member, join, only_if, mask_of}
use Rattle.sets.proofs.Set.Laws.{member_only_if}
use Rattle.sets.proofs.Set.Of.{member_mask_of, is_mask_of, mask_of_agree, mask_of_join}
use Rattle.plan.specs.Asked.{Asking, compared, finds, quick, nobody, test_of, belongs, added_to, bucket_from, bucket, asking}

-- what a bucket says

module _ (m w s : ℕ) (some : 0 < m) where
  added_some : (t later : ℕ) → 0 < t → added_to m t later ≡ 0 → ⊥
  added_some t later h = go (eqb later 0)
    where
      go : (b : Bool) → cond b t m ≡ 0 → ⊥
      go true e = absurd (omega arith)
      go false e = absurd (omega arith)

  abbrev None : List ℕ → Type 0
  None ns = (i : ℕ) → i < length ns → belongs w s (get_or ns i 0) ≡ false

  -- it says 0 of the steps after step 0: none of them asks for a name of it
  none_belongs : (ns : List ℕ) (t : ℕ) → 0 < t → bucket_from m w s t ns ≡ 0 → None ns
  unfolding bucket_from
  none_belongs [] t h e = λ i l. absurd (omega arith)
  none_belongs (n ∷ ns) t h e = go (bucket_from m w s (suc t) ns) (none_belongs ns (suc t) (omega arith)) (belongs w s n) refl e
    where
      go : (later : ℕ) → (later ≡ 0 → None ns) → (b : Bool) → belongs w s n ≡ b → cond b (added_to m t later) later ≡ 0 → None (n ∷ ns)
      go later rest true p q i l = absurd (added_some t later h q)
      go later rest false p q zero l = p
      go later rest false p q (suc i) l = rest q i (omega arith)

  abbrev Says : ℕ → ℕ → List ℕ → Type 0
  Says said t ns = (i : ℕ) → i < length ns → belongs w s (get_or ns i 0) ≡ true → (said ≡ t + i) ⊎ (said ≡ m)

  says_from : (ns : List ℕ) (t : ℕ) → Says (bucket_from m w s t ns) t ns
  unfolding bucket_from
  says_from [] t = λ i l h. absurd (omega arith)
  says_from (n ∷ ns) t =
      go (bucket_from m w s (suc t) ns) (none_belongs ns (suc t) (omega arith)) (says_from ns (suc t)) (belongs w s n) refl
    where
      here : (b : Bool) → (cond b t m ≡ t + 0) ⊎ (cond b t m ≡ m)
      here true = inl (omega arith)
      here false = inr refl

      another : (later i : ℕ) → (later ≡ 0 → None ns) → i < length ns → belongs w s (get_or ns i 0) ≡ true → (b : Bool) → eqb later 0 ≡ b → cond b t m ≡ m
      another later i none l h true z = absurd (true≢false (sym h ∙ none (eqb-true later 0 z) i l))
      another later i none l h false z = refl

      next : (later i : ℕ) → (later ≡ suc t + i) ⊎ (later ≡ m) → (later ≡ t + suc i) ⊎ (later ≡ m)
      next later i (inl e) = inl (omega arith)
      next later i (inr e) = inr e

      go :
          (later : ℕ) → (later ≡ 0 → None ns) → Says later (suc t) ns → (b : Bool) → belongs w s n ≡ b →
          Says (cond b (added_to m t later) later) t (n ∷ ns)
      go later none rest true p zero l h = here (eqb later 0)
      go later none rest true p (suc i) l h = inr (another later i none (omega arith) h (eqb later 0) refl)
      go later none rest false p zero l h = absurd (true≢false (sym h ∙ p))
      go later none rest false p (suc i) l h = next later i (rest i (omega arith) h)

  bucket_says : (T : List ℕ) (i : ℕ) → i < length T → belongs w s (get_or T i 0) ≡ true → (bucket m w T s ≡ i) ⊎ (bucket m w T s ≡ m)
  bucket_says T i l h = subst (λ k. (bucket m w T s ≡ k) ⊎ (bucket m w T s ≡ m)) (zero-add i) (says_from T 0 i l h)

  most_from : (ns : List ℕ) (t : ℕ) → t + length ns ≤ m → bucket_from m w s t ns ≤ m
  unfolding bucket_from
  most_from [] t h = omega arith
  most_from (n ∷ ns) t h = go (belongs w s n) (eqb (bucket_from m w s (suc t) ns) 0) (most_from ns (suc t) (omega arith))
    where
      go : (a b : Bool) {later : ℕ} → later ≤ m → cond a (cond b t m) later ≤ m
      go true true l = omega arith
      go true false l = omega arith
      go false b l = l

  pub bucket_most : (T : List ℕ) → length T ≤ m → bucket m w T s ≤ m
  bucket_most T h = most_from T 0 (omega arith)

  -- a step that asks for a name of the bucket
  pub record Asks (ns : List ℕ) (i : ℕ) : Type 0 where
    pub within : i < length ns
    pub belonging : belongs w s (get_or ns i 0) ≡ true

  one_later : {n : ℕ} {ns : List ℕ} {i : ℕ} → Asks ns i → Asks (n ∷ ns) (suc i)
  one_later a = record { within = omega (arith, a.within); belonging = a.belonging }

  some_asks : (ns : List ℕ) (t : ℕ) → (bucket_from m w s t ns ≡ 0) ⊎ ((i : ℕ) × Asks ns i)
  unfolding bucket_from
  some_asks [] t = inl refl
  some_asks (n ∷ ns) t = go (some_asks ns (suc t)) (belongs w s n) refl
    where
      go :
          {later : ℕ} → (later ≡ 0) ⊎ ((i : ℕ) × Asks ns i) → (b : Bool) → belongs w s n ≡ b →
          (cond b (added_to m t later) later ≡ 0) ⊎ ((i : ℕ) × Asks (n ∷ ns) i)
      go rest true p = inr (zero, record { within = omega arith; belonging = p })
      go (inl e) false p = inl e
      go (inr (i, a)) false p = inr (suc i, one_later a)

  pub bucket_none : (T : List ℕ) → ((i : ℕ) → i < length T → belongs w s (get_or T i 0) ≡ false) → bucket m w T s ≡ 0
  bucket_none T none = go (some_asks T 0)
    where
      go : (bucket m w T s ≡ 0) ⊎ ((i : ℕ) × Asks T i) → bucket m w T s ≡ 0
      go (inl e) = e
      go (inr (i, a)) = absurd (true≢false (sym a.belonging ∙ none i a.within))

  pub record Two (ns : List ℕ) : Type 0 where
    pub first : ℕ
    pub second : ℕ
    pub apart : first < second
    pub one : Asks ns first
    pub other : Asks ns second

  several_from : (ns : List ℕ) (t : ℕ) → t + length ns ≤ m → bucket_from m w s t ns ≡ m → Two ns
  unfolding bucket_from
  several_from [] t h e = absurd (omega arith)
  several_from (n ∷ ns) t h e = go (some_asks ns (suc t)) (several_from ns (suc t) (omega arith)) (belongs w s n) refl e
    where
      here : {i : ℕ} → belongs w s n ≡ true → Asks ns i → Two (n ∷ ns)
      here {i} p a =
          record { first = zero; second = suc i; apart = omega arith; one = record { within = omega arith; belonging = p }; other = one_later a }

      alone : (b : Bool) {later : ℕ} → later ≡ 0 → eqb later 0 ≡ b → cond b t m ≡ m → ⊥
      alone true z q k = absurd (omega arith)
      alone false {later} z q k = eqb-false later 0 q z

      go :
          {later : ℕ} → (later ≡ 0) ⊎ ((i : ℕ) × Asks ns i) → (later ≡ m → Two ns) → (b : Bool) → belongs w s n ≡ b →
          cond b (added_to m t later) later ≡ m → Two (n ∷ ns)
      go {later} (inl z) rest true p k = absurd (alone (eqb later 0) z refl k)
      go {later} (inr (i, a)) rest true p k = here p a
      go found rest false p k =
          let two : Two ns = rest k in
          record {
            first = suc two.first;
            second = suc two.second;
            apart = omega (arith, two.apart);
            one = one_later two.one;
            other = one_later two.other;
          }

  pub bucket_several : (T : List ℕ) → length T ≤ m → bucket m w T s ≡ m → Two T
  bucket_several T h = several_from T 0 (omega arith)

-- a star's test passes every name, another its own
passed_star : (t n : ℕ) → t ≡ star → passes t n ≡ true
unfolding passes
passed_star t n e = ap (λ b. b || eqb t n) (eq-eqb t star e)

passed_name : (t n : ℕ) → (t ≡ star → ⊥) → passes t n ≡ eqb t n
unfolding passes
passed_name t n f = ap (λ b. b || eqb t n) (ne_eqb t star f)

-- what is kept for tests

module _ (few m w : ℕ) (some : 0 < m) (T : List ℕ) (fits : length T ≤ m) (t : ℕ) (l : t < length T) where
  abbrev A : Asking
  A = asking few m w T

  abbrev n : ℕ
  n = get_or T t 0

  star_is : member A.stars t ≡ eqb n star
  star_is = member_mask_of (length T) (λ u. eqb (get_or T u 0) star) t ∙ ap (λ b. b && eqb n star) (lt-ltb t (length T) l)

  own_compared : (n ≡ star → ⊥) → compared A n t ≡ true
  unfolding compared
  own_compared f = go (ltb (length T) few) (bucket_says m w (n % w) some T t l (ap₂ (λ a b. not a && b) (ne_eqb n star f) (eq-eqb (n % w) (n % w) refl)))
    where
      past : (said : ℕ) → length T ≤ said → (eqb said t || not (ltb said (length T))) ≡ true
      past said h = ap (λ b. eqb said t || not b) (le-ltb said (length T) h) ∙ or-true (eqb said t)

      go :
          (b : Bool) → (bucket m w T (n % w) ≡ t) ⊎ (bucket m w T (n % w) ≡ m) →
          (eqb (cond b (length T) (bucket m w T (n % w))) t || not (ltb (cond b (length T) (bucket m w T (n % w))) (length T))) ≡ true
      go true says = past (length T) (omega arith)
      go false (inl e) = ap (λ b. b || not (ltb (bucket m w T (n % w)) (length T))) (eq-eqb _ t e)
      go false (inr e) = past (bucket m w T (n % w)) (omega arith)

  finds_plain : (x : ℕ) → finds A x t ≡ passes n x
  unfolding finds
  finds_plain x = rw star_is (go (eqb n star) refl (eqb n x) refl)
    where
      own : n ≡ x → (n ≡ star → ⊥) → (not (eqb x star) && (true && compared A x t)) ≡ true
      own e f = rw (← e) (ap₂ (λ a b. not a && b) (ne_eqb n star f) (own_compared f))

      go : (a : Bool) → eqb n star ≡ a → (b : Bool) → eqb n x ≡ b → (a || (not (eqb x star) && (b && compared A x t))) ≡ passes n x
      go true p b q = sym (passed_star n x (eqb-true n star p))
      go false p true q = own (eqb-true n x q) (eqb-false n star p) ∙ sym (passed_name n x (eqb-false n star p) ∙ q)
      go false p false q = and-false (not (eqb x star)) ∙ sym (passed_name n x (eqb-false n star p) ∙ q)

  pub test_kept : test_of A t ≡ n
  unfolding test_of
  test_kept = rw star_is (go (eqb n star) refl)
    where
      go : (a : Bool) → eqb n star ≡ a → cond a star (cond (not (eqb n star) && compared A n t) n nobody) ≡ n
      go true p = sym (eqb-true n star p)
      go false p = ap (λ b. cond b n nobody) (ap₂ (λ a b. not a && b) p (own_compared (eqb-false n star p)))

pub quick_plain :
    (few m w : ℕ) (T : List ℕ) (x : ℕ) → 0 < m → length T ≤ m → quick (asking few m w T) x ≡ mask_of (length T) (λ t. passes (get_or T t 0) x)
unfolding quick
quick_plain few m w T x some fits = mask_of_agree (length T) _ _ (λ t l. finds_plain few m w some T fits t l x)

-- anything that is kept

module _ (A : Asking) (x : ℕ) (small : x < nobody) where
  finds_test : (t : ℕ) → finds A x t ≡ passes (test_of A t) x
  unfolding finds test_of
  finds_test t = go (member A.stars t) (eqb (A.name t) star) refl (compared A (A.name t) t) refl (eqb (A.name t) x) refl
    where
      n : ℕ
      n = A.name t

      no_one : passes nobody x ≡ false
      no_one = passed_name nobody x (λ e. absurd (omega arith)) ∙ ne_eqb nobody x (λ e. absurd (omega arith))

      same : n ≡ x → {c : Bool} → compared A n t ≡ c → compared A x t ≡ c
      same e p = ap (λ y. compared A y t) (sym e) ∙ p

      go :
          (s a : Bool) → eqb n star ≡ a → (c : Bool) → compared A n t ≡ c → (b : Bool) → eqb n x ≡ b →
          (s || (not (eqb x star) && (b && compared A x t))) ≡ passes (cond s star (cond (not a && c) n nobody)) x
      go true a p c q b r = sym (passed_star star x refl)
      go false true p c q true r =
          ap (λ b. not b && (true && compared A x t)) (eq-eqb x star (sym (eqb-true n x r) ∙ eqb-true n star p)) ∙ sym no_one
      go false true p c q false r = and-false (not (eqb x star)) ∙ sym no_one
      go false false p true q true r =
          let e : n ≡ x = eqb-true n x r in
          ap₂ (λ a b. not a && b) (ap (λ y. eqb y star) (sym e) ∙ p) (same e q)
          ∙ sym (passed_name n x (eqb-false n star p) ∙ r)
      go false false p true q false r = and-false (not (eqb x star)) ∙ sym (passed_name n x (eqb-false n star p) ∙ r)
      go false false p false q true r = ap (λ b. not (eqb x star) && b) (same (eqb-true n x r) q) ∙ and-false (not (eqb x star)) ∙ sym no_one
      go false false p false q false r = and-false (not (eqb x star)) ∙ sym no_one

  pub quick_tests : quick A x ≡ mask_of A.size (λ t. passes (test_of A t) x)
  unfolding quick
  quick_tests = mask_of_agree A.size _ _ (λ t l. finds_test t)

-- what is told, by how many steps are compared

module _ (A : Asking) (x : ℕ) where
  abbrev stars : ℕ
  stars = mask_of A.size (member A.stars)

  abbrev asks : ℕ → Bool
  asks t = eqb (A.name t) x

  pub quick_none : x ≡ star → quick A x ≡ stars
  unfolding quick finds
  quick_none e =
      mask_of_agree A.size _ _
      (λ t l. ap (λ b. member A.stars t || (not b && (asks t && compared A x t))) (eq-eqb x star e) ∙ or-false (member A.stars t))

  -- with the steps that pass C compared
  told : (C : ℕ → Bool) → (x ≡ star → ⊥) → ((t : ℕ) → t < A.size → compared A x t ≡ C t) →
      quick A x ≡ join stars (mask_of A.size (λ t. asks t && C t))
  unfolding quick finds
  told C f e =
      mask_of_agree A.size _ _ (λ t l. ap₂ (λ a b. member A.stars t || (not a && (asks t && b))) (ne_eqb x star f) (e t l))
      ∙ mask_of_join A.size (member A.stars) (λ t. asks t && C t)

  pub quick_all : (x ≡ star → ⊥) → A.size ≤ A.place x → quick A x ≡ join stars (mask_of A.size asks)
  unfolding compared
  quick_all f h =
      told (λ t. true) f (λ t l. ap (λ b. eqb (A.place x) t || not b) (le-ltb (A.place x) A.size h) ∙ or-true (eqb (A.place x) t))
      ∙ ap (join stars) (mask_of_agree A.size _ asks (λ t l. and-true (asks t)))

  pub quick_one : (x ≡ star → ⊥) → A.place x < A.size → quick A x ≡ join stars (only_if (asks (A.place x)) (A.place x))
  unfolding compared
  quick_one f h =
      told (eqb (A.place x)) f (λ t l. ap (λ b. eqb (A.place x) t || not b) (lt-ltb (A.place x) A.size h) ∙ or-false (eqb (A.place x) t))
      ∙ ap (join stars) (sym (is_mask_of A.size _ _ (λ t. member_only_if (asks (A.place x)) (A.place x) t ∙ one t (eqb (A.place x) t) refl)))
    where
      one : (t : ℕ) (b : Bool) → eqb (A.place x) t ≡ b → (asks (A.place x) && b) ≡ (ltb t A.size && (asks t && b))
      one t true e =
          let same : A.place x ≡ t = eqb-true (A.place x) t e in
          ap (λ p. asks p && true) same
          ∙ sym (ap (λ b. b && (asks t && true)) (ap (λ p. ltb p A.size) (sym same) ∙ lt-ltb (A.place x) A.size h))
      one t false e = and-false (asks (A.place x)) ∙ sym (ap (λ b. ltb t A.size && b) (and-false (asks t)) ∙ and-false (ltb t A.size))

pub test_same :
    (A B : Asking) (t : ℕ) → A.size ≡ B.size → A.stars ≡ B.stars → A.name t ≡ B.name t → A.place (B.name t) ≡ B.place (B.name t) →
    test_of A t ≡ test_of B t
unfolding test_of compared
test_same A B t es em en ep =
    ap₂
    (λ m n. cond (member m t) star (cond (not (eqb n star) && (eqb (A.place n) t || not (ltb (A.place n) A.size))) n nobody))
    em en
    ∙ ap₂
    (λ p s. cond (member B.stars t) star (cond (not (eqb (B.name t) star) && (eqb p t || not (ltb p s))) (B.name t) nobody))
    ep es
