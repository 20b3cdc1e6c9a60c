-- The decimal numeral of a number.
--
--   decimal_single      a number under 10 is its digit
--   decimal_more        any other is the numeral of its tenth, and its last digit
--   length_single, length_more      so many digits
--   length_some         there is one at least
--   under_ten, over_ten      it is under 10 by its length, or not
--   length_short        a number under 10 ^ k has at most k
--   length_log          a number from 10 ^ k on and under ten times that has k + 1
--   decimal_numeral     it is a decimal numeral
--   value_decimal       it is read as the number
--   decimal_value       any decimal numeral is that of the number that it is read as: there is no other
--
-- Assumes nothing.
use Rattle.std.specs.Prelude.{ℕ, zero, suc, ◌+◌, ◌-◌, ◌*◌, ◌/◌, ◌%◌, ◌^◌, ◌≤◌, ◌<◌, ◌≡◌, refl, List, [], ◌∷◌, ◌++◌, length}
use Rattle.std.proofs.Math.Decide.{dec_lt}
use Rattle.std.proofs.Math.Nat.{one-le-pow}
use Rattle.std.proofs.Common.{pow-suc, arith, sym, ap, ap₂, ◌∙◌, append-nil, append_assoc, length-append, lt-ltb, le-ltb}
use Rattle.lines.specs.Decimal.{digit, numeral, decimal, is_digit, Digits, none, more, value_from, value, Numeral, single, longer}

-- what holds of the numbers under 10, and of a number where it holds of its tenth, holds of all
module _ (P : ℕ → Type 0) (low : (n : ℕ) → n < 10 → P n) (step : (n : ℕ) → 10 ≤ n → P (n / 10) → P n) where
  under : (k n : ℕ) → n < k → P n
  under zero n h = absurd (omega arith)
  under (suc k) n h = go (dec_lt n 10) (under k)
    where
      go : Dec (n < 10) → ((m : ℕ) → m < k → P m) → P n
      go (yes l) rest = low n l
      go (no f) rest = step n (omega arith) (rest (n / 10) (omega arith))

  by_tenths : (n : ℕ) → P n
  by_tenths n = under (suc n) n (omega arith)

numeral_single : (k n : ℕ) → n < 10 → numeral (suc k) n ≡ digit n ∷ []
unfolding numeral
numeral_single k n h = rw (lt-ltb n 10 h)

numeral_more : (k n : ℕ) → 10 ≤ n → numeral (suc k) n ≡ numeral k (n / 10) ++ (digit (n % 10) ∷ [])
unfolding numeral
numeral_more k n h = rw (le-ltb n 10 h)

-- as many digits as it takes are enough
numeral_enough : (n j k : ℕ) → n < j → n < k → numeral j n ≡ numeral k n
numeral_enough = by_tenths (λ n. (j k : ℕ) → n < j → n < k → numeral j n ≡ numeral k n) low step
  where
    low : (n : ℕ) → n < 10 → (j k : ℕ) → n < j → n < k → numeral j n ≡ numeral k n
    low n l zero k h g = absurd (omega arith)
    low n l (suc j) zero h g = absurd (omega arith)
    low n l (suc j) (suc k) h g = numeral_single j n l ∙ sym (numeral_single k n l)

    step :
        (n : ℕ) → 10 ≤ n → ((j k : ℕ) → n / 10 < j → n / 10 < k → numeral j (n / 10) ≡ numeral k (n / 10)) →
        (j k : ℕ) → n < j → n < k → numeral j n ≡ numeral k n
    step n l p zero k h g = absurd (omega arith)
    step n l p (suc j) zero h g = absurd (omega arith)
    step n l p (suc j) (suc k) h g =
        numeral_more j n l
        ∙ ap (λ cs. cs ++ (digit (n % 10) ∷ [])) (p j k (omega arith) (omega arith))
        ∙ sym (numeral_more k n l)

pub decimal_single : (n : ℕ) → n < 10 → decimal n ≡ digit n ∷ []
unfolding decimal
decimal_single n h = numeral_single n n h

pub decimal_more : (n : ℕ) → 10 ≤ n → decimal n ≡ decimal (n / 10) ++ (digit (n % 10) ∷ [])
unfolding decimal
decimal_more n h =
    numeral_more n n h
    ∙ ap (λ l. l ++ (digit (n % 10) ∷ [])) (numeral_enough (n / 10) n (suc (n / 10)) (omega arith) (omega arith))

pub length_single : (n : ℕ) → n < 10 → length (decimal n) ≡ 1
length_single n h = rw (decimal_single n h)

pub length_more : (n : ℕ) → 10 ≤ n → length (decimal n) ≡ length (decimal (n / 10)) + 1
length_more n h = rw (decimal_more n h, length-append)

pub length_some : (n : ℕ) → 0 < length (decimal n)
length_some n = go (dec_lt n 10)
  where
    go : Dec (n < 10) → 0 < length (decimal n)
    go (yes l) = omega (arith, length_single n l)
    go (no f) = omega (arith, length_more n (omega arith))

-- by its length
pub under_ten : (n : ℕ) → length (decimal n) ≤ 1 → n < 10
under_ten n h = go (dec_lt n 10)
  where
    go : Dec (n < 10) → n < 10
    go (yes l) = l
    go (no f) = absurd (omega (arith, length_more n (omega arith), length_some (n / 10)))

pub over_ten : (n : ℕ) → 1 < length (decimal n) → 10 ≤ n
over_ten n h = go (dec_lt n 10)
  where
    go : Dec (n < 10) → 10 ≤ n
    go (yes l) = absurd (omega (arith, length_single n l))
    go (no f) = omega arith

pub length_short : (k n : ℕ) → n < 10 ^ suc k → length (decimal n) ≤ suc k
length_short zero n h = omega (arith, length_single n (omega arith))
length_short (suc k) n h = go (dec_lt n 10) (length_short k (n / 10) (omega (arith, pow-suc 10 (suc k))))
  where
    go : Dec (n < 10) → length (decimal (n / 10)) ≤ suc k → length (decimal n) ≤ suc (suc k)
    go (yes l) rest = omega (arith, length_single n l)
    go (no f) rest = omega (arith, length_more n (omega arith))

length_long : (k n : ℕ) → 10 ^ k ≤ n → k < length (decimal n)
length_long zero n h = length_some n
length_long (suc k) n h =
    let tens : 10 ^ suc k ≡ 10 ^ k * 10 = pow-suc 10 k in
    let some : 1 ≤ 10 ^ k = one-le-pow k 10 (omega arith) in
    omega (arith, length_more n (omega arith), length_long k (n / 10) (omega arith))

-- by the logarithm
pub length_log : (k n : ℕ) → 10 ^ k ≤ n → n < 10 * 10 ^ k → length (decimal n) ≡ k + 1
length_log k n h g = omega (arith, length_long k n h, length_short k n (omega (arith, pow-suc 10 k)))

Digits-append : {cs ds : List ℕ} → Digits cs → Digits ds → Digits (cs ++ ds)
Digits-append none q = q
Digits-append (more d p) q = more d (Digits-append p q)

digit_is : (d : ℕ) → d < 10 → is_digit (digit d)
digit_is d h = (omega arith, omega arith)

-- a digit may follow a numeral that is no 0
numeral_snoc : {cs : List ℕ} {c : ℕ} → Numeral cs → (cs ≡ 48 ∷ [] → ⊥) → is_digit c → Numeral (cs ++ (c ∷ []))
numeral_snoc (single {c} p) nonzero q = longer p (go (dec_lt 48 c)) (more q none)
  where
    go : Dec (48 < c) → 48 < c
    go (yes l) = l
    go (no f) = absurd (nonzero (ap (λ x. x ∷ []) (omega (arith, p.0))))
numeral_snoc (longer p l ds) nonzero q = longer p l (Digits-append ds (more q none))

decimal_zero : (n : ℕ) → decimal n ≡ 48 ∷ [] → n ≡ 0
decimal_zero n e = go (dec_lt n 10)
  where
    go : Dec (n < 10) → n ≡ 0
    go (yes l) = let same : digit n ∷ [] ≡ 48 ∷ [] = sym (decimal_single n l) ∙ e in let d : digit n ≡ 48 = cc in omega arith
    go (no f) = absurd (omega (arith, ap length e, length_more n (omega arith), length_some (n / 10)))

pub decimal_numeral : (n : ℕ) → Numeral (decimal n)
decimal_numeral =
    by_tenths (λ n. Numeral (decimal n)) (λ n l. rw (decimal_single n l) (single (digit_is n l)))
    (λ n h p.
    rw (decimal_more n h)
    (numeral_snoc p (λ e. let none : n / 10 ≡ 0 = decimal_zero (n / 10) e in omega arith) (digit_is (n % 10) (omega arith))))

value_from_snoc : (v : ℕ) (cs : List ℕ) (c : ℕ) → value_from v (cs ++ (c ∷ [])) ≡ value_from v cs * 10 + (c - 48)
unfolding value_from
value_from_snoc v [] c = refl
value_from_snoc v (d ∷ cs) c = value_from_snoc (v * 10 + (d - 48)) cs c

value_single : (n : ℕ) → n < 10 → value (decimal n) ≡ n
unfolding value_from
value_single n l = rw (decimal_single n l) (omega arith)

pub value_decimal : (n : ℕ) → value (decimal n) ≡ n
value_decimal =
    by_tenths (λ n. value (decimal n) ≡ n) value_single
    (λ n h p. rw (decimal_more n h, value_from_snoc, p) (omega arith))

-- digits that follow the numeral of a number that is no 0
decimal_value_from : (v : ℕ) {cs : List ℕ} → 0 < v → Digits cs → decimal (value_from v cs) ≡ decimal v ++ cs
unfolding value_from
decimal_value_from v h none = sym (append-nil (decimal v))
decimal_value_from v h (more {c} {cs} d ds) =
    let next : ℕ = v * 10 + (c - 48) in
    let tenth : next / 10 ≡ v = omega (arith, d.0, d.1) in
    let last : digit (next % 10) ≡ c = omega (arith, d.0, d.1) in
    decimal_value_from next (omega arith) ds
    ∙ ap (λ l. l ++ cs) (decimal_more next (omega arith) ∙ ap₂ (λ t e. decimal t ++ (e ∷ [])) tenth last)
    ∙ append_assoc (decimal v) (c ∷ []) cs

pub decimal_value : {cs : List ℕ} → Numeral cs → decimal (value cs) ≡ cs
unfolding value_from
decimal_value (single {c} d) = decimal_single (0 * 10 + (c - 48)) (omega (arith, d.1)) ∙ ap (λ x. x ∷ []) (omega (arith, d.0))
decimal_value (longer {c} {cs} d l ds) =
    decimal_value_from (0 * 10 + (c - 48)) (omega arith) ds
    ∙ ap (λ x. x ++ cs) (decimal_single (0 * 10 + (c - 48)) (omega (arith, d.1)))
    ∙ ap (λ x. x ∷ cs) (omega (arith, d.0))
