-- Two parts of bytes compared.
--
--   same_bytes a i b j n      the n bytes of a from i on are those of b from j on
--   same_parts               it is the test of the two parts
--
-- Assumes nothing. NOT here: that the test says so exactly if the parts are equal (crate spelling).
use Rattle.std.specs.Prelude.{ℕ, ◌+◌, ◌-◌, ◌≡◌, Bool, List, take, drop}
use Rattle.std.proofs.Common.{arith, ap₂}
use Rattle.xml.specs.Grammar.{same_name}

unfoldable pub same_bytes : List ℕ → ℕ → List ℕ → ℕ → ℕ → Bool
same_bytes a i b j n = same_name (take n (drop i a)) (take n (drop j b))

pub same_parts :
    (a : List ℕ) (i : ℕ) (b : List ℕ) (j n : ℕ) → same_name (take ((i + n) - i) (drop i a)) (take ((j + n) - j) (drop j b)) ≡ same_bytes a i b j n
unfolding same_bytes
same_parts a i b j n =
    let e : (i + n) - i ≡ n = omega arith in
    let f : (j + n) - j ≡ n = omega arith in
    ap₂ (λ x y. same_name (take x (drop i a)) (take y (drop j b))) e f
