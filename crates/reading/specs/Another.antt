-- A name can be made longer by one byte into a name that none of some names is: among as many bytes as there are names, and one more, one is free.
--
--   count p n          how many numbers below n pass p
--   same_name_lem          names that are the same by the test are equal
--   small_letter       the letters from 'a' to 'z' go on in a name
--   another            of n small letters from 'a' on, one makes m a name that none of ms is, where ms has fewer than n
--
-- Assumes nothing.
use Rattle.std.specs.Prelude.{ℕ, zero, suc, ◌+◌, ◌≤◌, ◌<◌, ◌≡◌, refl, Bool, true, false, not, ◌||◌, List, [], ◌∷◌, ◌++◌, T, eqb, length}
use Rattle.std.proofs.Common.{arith, sym, ap, ap₂, ◌∙◌, subst, eqb→eq}
use mir.Val.{bool_byte}
use Rattle.xml.specs.Class.{In}
use Rattle.xml.proofs.Class.Laws.{and_l, and_r}
use Rattle.xml.specs.Chars.{name_char}
use Rattle.xml.specs.Grammar.{same_name, among}
use Rattle.reading.specs.Last.{last, last_snoc}
use Rattle.reading.specs.Within.{here, there, within_in}

count : (ℕ → Bool) → ℕ → ℕ
count p zero = 0
count p (suc n) = bool_byte (p n) + count p n

count_or : (p q : ℕ → Bool) (n : ℕ) → count (λ i. p i || q i) n ≤ count p n + count q n
unfolding count
count_or p q zero = omega arith
count_or p q (suc n) = go (p n) (q n) (count_or p q n)
  where
    go :
        (x y : Bool)
        → count (λ i. p i || q i) n ≤ count p n + count q n
        → bool_byte (x || y) + count (λ i. p i || q i) n ≤ bool_byte x + count p n + (bool_byte y + count q n)
    go true true h = omega arith
    go true false h = omega arith
    go false true h = omega arith
    go false false h = omega arith

count_none : (p : ℕ → Bool) (n : ℕ) → ((i : ℕ) → i < n → T (p i) → ⊥) → count p n ≡ 0
unfolding count
count_none p zero f = refl
count_none p (suc n) f = go (p n) refl (count_none p n (λ i h. f i (omega arith)))
  where
    go : (x : Bool) → p n ≡ x → count p n ≡ 0 → bool_byte x + count p n ≡ 0
    go true e h = absurd (f n (omega arith) (subst T (sym e) tt))
    go false e h = omega arith

-- what at most one number passes is counted at most once
count_one : (p : ℕ → Bool) (n : ℕ) → ((i j : ℕ) → T (p i) → T (p j) → i ≡ j) → count p n ≤ 1
unfolding count
count_one p zero f = omega arith
count_one p (suc n) f = go (p n) refl (count_one p n f)
  where
    go : (x : Bool) → p n ≡ x → count p n ≤ 1 → bool_byte x + count p n ≤ 1
    go true e h = let z : count p n ≡ 0 = count_none p n (λ i l t. let y : i ≡ n = f i n t (subst T (sym e) tt) in omega arith) in omega arith
    go false e h = omega arith

-- where fewer than all pass, one does not
free : (p : ℕ → Bool) (n : ℕ) → count p n < n → (i : ℕ) × (i < n) × (p i ≡ false)
unfolding count
free p zero h = absurd (omega arith)
free p (suc n) h = go (p n) refl h (λ l. free p n l)
  where
    go : (x : Bool) → p n ≡ x → bool_byte x + count p n < suc n → (count p n < n → (i : ℕ) × (i < n) × (p i ≡ false)) → (i : ℕ) × (i < suc n) × (p i ≡ false)
    go true e l f = let (i, k, z) = f (omega arith) in (i, omega arith, z)
    go false e l f = (n, omega arith, e)

pub same_name_lem : (t u : List ℕ) → T (same_name t u) → t ≡ u
unfolding same_name
same_name_lem [] [] h = refl
same_name_lem [] (b ∷ u) h = absurd h
same_name_lem (a ∷ t) [] h = absurd h
same_name_lem (a ∷ t) (b ∷ u) h = ap₂ ◌∷◌ (eqb→eq a b (and_l (eqb a b) _ h)) (same_name_lem t u (and_r (eqb a b) _ h))

-- m, and the i-th small letter behind it
abbrev longer : List ℕ → ℕ → List ℕ
longer m i = m ++ ((97 + i) ∷ [])

taken_once : (m k : List ℕ) (i j : ℕ) → T (same_name (longer m i) k) → T (same_name (longer m j) k) → i ≡ j
taken_once m k i j h g =
    let e : longer m i ≡ longer m j = same_name_lem _ k h ∙ sym (same_name_lem _ k g) in
    let z : 97 + i ≡ 97 + j = sym (last_snoc m (97 + i)) ∙ ap last e ∙ last_snoc m (97 + j) in
    omega arith

taken_few : (m : List ℕ) (ms : List (List ℕ)) (n : ℕ) → count (λ i. among (longer m i) ms) n ≤ length ms
unfolding among
taken_few m [] n = let z : count (λ i. false) n ≡ 0 = count_none (λ i. false) n (λ i h t. t) in omega arith
taken_few m (k ∷ ms) n =
    let a : count (λ i. same_name (longer m i) k || among (longer m i) ms) n ≤ count (λ i. same_name (longer m i) k) n + count (λ i. among (longer m i) ms) n =
    count_or (λ i. same_name (longer m i) k) (λ i. among (longer m i) ms) n in
    let b : count (λ i. same_name (longer m i) k) n ≤ 1 = count_one (λ i. same_name (longer m i) k) n (taken_once m k) in
    let c : count (λ i. among (longer m i) ms) n ≤ length ms = taken_few m ms n in
    omega arith

pub another : (m : List ℕ) (ms : List (List ℕ)) (n : ℕ) → length ms < n → (i : ℕ) × (i < n) × T (not (among (longer m i) ms))
another m ms n h =
    let c : count (λ i. among (longer m i) ms) n ≤ length ms = taken_few m ms n in
    let (i, l, e) = free (λ i. among (longer m i) ms) n (omega arith) in
    (i, l, subst (λ z. T (not z)) (sym e) tt)

pub small_letter : (i : ℕ) → i < 26 → In name_char (97 + i)
small_letter i h = within_in (there (there (there (there (here (omega arith) (omega arith))))))
