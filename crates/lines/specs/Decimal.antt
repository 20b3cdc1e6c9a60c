-- A number in decimal, as text.
--
--   digit d          the character of a digit under 10
--   numeral k n      the decimal numeral of n, of at most k digits
--   decimal n        the decimal numeral of n: its digits, the highest first, with no zero in front; 0 is "0"
--   is_digit c        the character is a digit
--   Digits cs        all the characters are digits
--   value_from v cs   the number that is read where cs follows a numeral of v
--   value cs         the number that a numeral is read as
--   Numeral cs       cs is a decimal numeral: digits, at least one, and no zero in front of another
--
-- Assumes nothing. NOT here: that decimal n is the one numeral that is read as n (proofs/Decimal/Laws).
use Rattle.std.specs.Prelude.{ℕ, zero, suc, ◌+◌, ◌-◌, ◌*◌, ◌/◌, ◌%◌, ◌≤◌, ◌<◌, cond, List, [], ◌∷◌, ◌++◌, ltb}

-- 48 is the character 0
abbrev pub digit : ℕ → ℕ
digit d = 48 + d

unfoldable pub numeral : ℕ → ℕ → List ℕ
numeral zero n = []
numeral (suc k) n = cond (ltb n 10) (digit n ∷ []) (numeral k (n / 10) ++ (digit (n % 10) ∷ []))

-- no number has more digits than one more than itself
unfoldable pub decimal : ℕ → List ℕ
decimal n = numeral (suc n) n

abbrev pub is_digit : ℕ → Type 0
is_digit c = (48 ≤ c) × (c < 58)

pub data Digits : List ℕ → Type 0 where
  none : Digits []
  more : {c : ℕ} {cs : List ℕ} → is_digit c → Digits cs → Digits (c ∷ cs)

unfoldable pub value_from : ℕ → List ℕ → ℕ
value_from v [] = v
value_from v (c ∷ cs) = value_from (v * 10 + (c - 48)) cs

abbrev pub value : List ℕ → ℕ
value cs = value_from 0 cs

pub data Numeral : List ℕ → Type 0 where
  single : {c : ℕ} → is_digit c → Numeral (c ∷ [])
  longer : {c : ℕ} {cs : List ℕ} → is_digit c → 48 < c → Digits cs → Numeral (c ∷ cs)
