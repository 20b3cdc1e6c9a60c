-- A loop that goes through the places 0, 1, .. and collects those that pass a test. For any test and any number of places.
--
--   Collected P s r     r is the set of the places under s that pass P: the loop's invariant at place s
--   one_shift           `1 << s` in n digits is the place s alone
--   join_shift          `r | (1 << s)` in n digits is r with s
--   flag_shift          `b << s` in n digits is the place s alone if b holds
--   collect_none        before the first place
--   collect_put         the place s passes, and the next r is r with s
--   collect_shift       the same, where the next r is `r | (1 << s)` in n digits
--   collect_skip        the place s does not pass, and the next r is r
--   collect_flag        the test's outcome is shifted to the place s and joined, with no branch
--   collect_only        the same, where the next r is r with the place s if it passes
--   collect_all         after the last place r is the set of the test
--
-- The test may be one that is called, of which R says what it may answer:
--
--   Called R s r        r is the set of the places under s at which the calls answered true: the loop's invariant at place s
--   then f s b          the answers of f under s, and b from there on;  then_under, then_here: what it answers
--   called_none, called_flag, called_all      before the first place, one call more, and after the last
--   mask_of_calls       where R allows the outcome of a test alone, the set is that of the test
--
-- Assumes nothing.
use Rattle.std.specs.Prelude.{ℕ, ◌+◌, ◌*◌, ◌%◌, ◌^◌, ◌≤◌, ◌<◌, ◌≡◌, refl, Bool, true, false, ◌&&◌, ◌||◌, cond, eqb, ltb}
use Rattle.std.proofs.Math.Decide.{dec_lt}
use Rattle.std.proofs.Common.{zero-mul, le_refl, arith, sym, ap, ap₂, ◌∙◌, subst, shl_exact, eqb-true, lt-ltb, le-ltb}
use Rattle.std.proofs.Math.Nat.{zero-mod}
use Rattle.std.proofs.Math.Bool.{and-false, or-true, or-false}
use mir.Val.{bool_byte}
use Rattle.std.specs.Int.Bits.{or_zero_r}
use Rattle.std.proofs.lemmas.Bool.{eqb-false}
use Rattle.sets.specs.Set.{member, join, one, with, only_if, mask_of, MaskOfCalls}
use Rattle.sets.proofs.Set.Laws.{member_none, member_with}
use Rattle.sets.proofs.Set.Of.{is_mask_of, mask_of_agree}

-- a record, so that P, s and r are read off a proof of it
pub record Collected (P : ℕ → Bool) (s r : ℕ) : Type 0 where
  pub has : (t : ℕ) → member r t ≡ (ltb t s && P t)

-- the places under s + 1 are s and those under s
under_here : (s : ℕ) → ltb s (s + 1) ≡ true
under_here s = lt-ltb s (s + 1) (omega arith)

under_other : (t s : ℕ) → (s ≡ t → ⊥) → ltb t (s + 1) ≡ ltb t s
under_other t s f = go (dec_lt t s)
  where
    go : Dec (t < s) → ltb t (s + 1) ≡ ltb t s
    go (yes l) = lt-ltb t (s + 1) (omega arith) ∙ sym (lt-ltb t s l)
    go (no g) = let far : s + 1 ≤ t = omega arith in le-ltb t (s + 1) far ∙ sym (le-ltb t s (omega arith))

pub collect_none : (P : ℕ → Bool) → Collected P 0 0
collect_none P = record { has = λ t. member_none t ∙ sym (ap (λ b. b && P t) (le-ltb t 0 (omega arith))) }

pub collect_put : {P : ℕ → Bool} {s r r' : ℕ} → r' ≡ with r s → Collected P s r → P s ≡ true → Collected P (s + 1) r'
collect_put {P} {s} {r} e old p = record { has = λ t. ap (λ x. member x t) e ∙ member_with r s t ∙ go t (eqb s t) refl }
  where
    go : (t : ℕ) (b : Bool) → eqb s t ≡ b → (member r t || eqb s t) ≡ (ltb t (s + 1) && P t)
    go t true here =
        let same : s ≡ t = eqb-true s t here in
        ap (λ b. member r t || b) here ∙ or-true (member r t)
        ∙ sym (ap₂ ◌&&◌ (subst (λ x. ltb x (s + 1) ≡ true) same (under_here s)) (subst (λ x. P x ≡ true) same p))
    go t false other =
        ap (λ b. member r t || b) other ∙ or-false (member r t) ∙ old.has t ∙ ap (λ b. b && P t) (sym (under_other t s (eqb-false s t other)))

pub collect_skip : {P : ℕ → Bool} {s r r' : ℕ} → r' ≡ r → Collected P s r → P s ≡ false → Collected P (s + 1) r'
collect_skip {P} {s} {r} e old p = record { has = λ t. ap (λ x. member x t) e ∙ old.has t ∙ go t (eqb s t) refl }
  where
    go : (t : ℕ) (b : Bool) → eqb s t ≡ b → (ltb t s && P t) ≡ (ltb t (s + 1) && P t)
    go t true here =
        let none : P t ≡ false = subst (λ x. P x ≡ false) (eqb-true s t here) p in
        ap (λ b. ltb t s && b) none ∙ and-false (ltb t s) ∙ sym (ap (λ b. ltb t (s + 1) && b) none ∙ and-false (ltb t (s + 1)))
    go t false other = ap (λ b. b && P t) (sym (under_other t s (eqb-false s t other)))

pub one_shift : (n t : ℕ) → t < n → (1 * 2 ^ t) % 2 ^ n ≡ one t
one_shift n t h = let e : 1 * 2 ^ t ≡ one t = omega arith in shl_exact 1 t n (le_refl 2) (omega arith) ∙ e

pub join_shift : (n m t : ℕ) → t < n → join m ((1 * 2 ^ t) % 2 ^ n) ≡ with m t
join_shift n m t h = ap (join m) (one_shift n t h)

pub collect_shift :
    (n : ℕ) {P : ℕ → Bool} {s r r' : ℕ} → s < n → r' ≡ join r ((1 * 2 ^ s) % 2 ^ n) → Collected P s r → P s ≡ true → Collected P (s + 1) r'
collect_shift n {P} {s} {r} h e = collect_put (e ∙ join_shift n r s h)

pub collect_flag :
    (n : ℕ) {P : ℕ → Bool} {s r r' : ℕ} → s < n → r' ≡ join r ((bool_byte (P s) * 2 ^ s) % 2 ^ n) → Collected P s r → Collected P (s + 1) r'
collect_flag n {P} {s} {r} {r'} h e old = go (P s) refl e
  where
    go : (b : Bool) → P s ≡ b → r' ≡ join r ((bool_byte b * 2 ^ s) % 2 ^ n) → Collected P (s + 1) r'
    go true p e' = collect_shift n h e' old p
    go false p e' =
        collect_skip (e' ∙ ap (λ x. join r (x % 2 ^ n)) (zero-mul (2 ^ s)) ∙ ap (join r) (zero-mod (2 ^ n)) ∙ or_zero_r r) old p

pub flag_shift : (n : ℕ) (b : Bool) (t : ℕ) → t < n → (bool_byte b * 2 ^ t) % 2 ^ n ≡ only_if b t
unfolding only_if
flag_shift n true t h = one_shift n t h
flag_shift n false t h = ap (λ x. x % 2 ^ n) (zero-mul (2 ^ t)) ∙ zero-mod (2 ^ n)

pub collect_only : {P : ℕ → Bool} {s r r' : ℕ} → r' ≡ join r (only_if (P s) s) → Collected P s r → Collected P (s + 1) r'
collect_only {P} {s} {r} {r'} e old = collect_flag (s + 1) (omega arith) (e ∙ ap (join r) (sym (flag_shift (s + 1) (P s) s (omega arith)))) old

pub collect_all : (n : ℕ) {P : ℕ → Bool} {s r : ℕ} → s ≡ n → Collected P s r → r ≡ mask_of n P
collect_all n {P} {s} {r} e all = is_mask_of n P r (λ t. rw (← e) (all.has t))

-- a test that is called

pub record Called (R : ℕ → Bool → Type 0) (s r : ℕ) : Type 0 where
  pub test : ℕ → Bool
  pub set : Collected test s r
  pub given : (t : ℕ) → t < s → R t (test t)

pub called_none : (R : ℕ → Bool → Type 0) → Called R 0 0
called_none R = record { test = λ t. false; set = collect_none (λ t. false); given = λ t l. absurd (omega arith) }

-- tests that agree on the places under s
collected_agree : {P Q : ℕ → Bool} {s r : ℕ} → Collected P s r → ((t : ℕ) → t < s → P t ≡ Q t) → Collected Q s r
collected_agree {P} {Q} {s} {r} all e = record { has = λ t. all.has t ∙ go t (dec_lt t s) }
  where
    go : (t : ℕ) → Dec (t < s) → (ltb t s && P t) ≡ (ltb t s && Q t)
    go t (yes l) = ap (λ b. ltb t s && b) (e t l)
    go t (no g) = let far : ltb t s ≡ false = le-ltb t s (omega arith) in rw far

-- what f answers under s, and b from there on
module _ {A : Type 0} (f : ℕ → A) (s : ℕ) (b : A) where
  pub then : ℕ → A
  then t = cond (ltb t s) (f t) b

  pub then_under : (t : ℕ) → t < s → then t ≡ f t
  unfolding then
  then_under t l = ap (λ x. cond x (f t) b) (lt-ltb t s l)

  pub then_here : then s ≡ b
  unfolding then
  then_here = ap (λ x. cond x (f s) b) (le-ltb s s (omega arith))

pub called_flag :
    (n : ℕ) {R : ℕ → Bool → Type 0} {s r r' : ℕ} {b : Bool} → s < n → r' ≡ join r ((bool_byte b * 2 ^ s) % 2 ^ n) → Called R s r → R s b →
    Called R (s + 1) r'
called_flag n {R} {s} {r} {r'} {b} h e old here =
    record {
      test = then old.test s b;
      set = collect_flag n h (e ∙ ap (λ x. join r ((bool_byte x * 2 ^ s) % 2 ^ n)) (sym (then_here old.test s b)))
          (collected_agree old.set (λ t l. sym (then_under old.test s b t l)));
      given = λ t l. go t l (dec_lt t s);
    }
  where
    go : (t : ℕ) → t < s + 1 → Dec (t < s) → R t (then old.test s b t)
    go t u (yes l) = subst (R t) (sym (then_under old.test s b t l)) (old.given t l)
    go t u (no g) =
        let same : s ≡ t = omega arith in
        subst (λ x. R x (then old.test s b x)) same (subst (R s) (sym (then_here old.test s b)) here)

pub called_all : (n : ℕ) {R : ℕ → Bool → Type 0} {s r : ℕ} → s ≡ n → Called R s r → MaskOfCalls R n r
called_all n {R} {s} {r} e all =
    record { test = all.test; mask = collect_all n e all.set; answered = λ t l. all.given t (omega arith) }

pub mask_of_calls :
    {R : ℕ → Bool → Type 0} {n r : ℕ} (P : ℕ → Bool) → MaskOfCalls R n r → ((t : ℕ) (b : Bool) → t < n → R t b → b ≡ P t) → r ≡ mask_of n P
mask_of_calls {R} {n} P m e = m.mask ∙ mask_of_agree n m.test P (λ t l. e t (m.test t) l (m.answered t l))
