-- The limits as the code's tests find them.
--
--   not_deep, deeper, not_deeper      the limit of the depth;  not_long, not_many: of a name's bytes, of a tag's attributes
--
-- Assumes nothing.
use Rattle.std.specs.Prelude.{ℕ, ◌≤◌, ◌<◌, ◌≡◌, true, false, leb, ltb}
use Rattle.std.proofs.Common.{arith, lt-ltb, le-ltb}
use Rattle.std.proofs.lemmas.Bool.{lt-leb}
use Rattle.meaning.specs.Limits.{depth_limit}
use Rattle.meaning.proofs.Limits.Laws.{depth_is}
use Rattle.xml.specs.Bounds.{name_limit, attribute_limit}
use Rattle.xml.proofs.Bounds.Laws.{name_limit_is, attribute_limit_is}

pub not_deep : (p : ℕ) → p < 256 → leb depth_limit p ≡ false
not_deep p h = lt-leb depth_limit p (omega (arith, depth_is))

pub deeper : (p : ℕ) → 256 < p → ltb depth_limit p ≡ true
deeper p h = lt-ltb depth_limit p (omega (arith, depth_is))

pub not_deeper : (p : ℕ) → p ≤ 256 → ltb depth_limit p ≡ false
not_deeper p h = le-ltb depth_limit p (omega (arith, depth_is))

pub not_long : (n : ℕ) → n < 64 → leb name_limit n ≡ false
not_long n h = lt-leb name_limit n (omega (arith, name_limit_is))

pub not_many : (n : ℕ) → n < 16 → leb attribute_limit n ≡ false
not_many n h = lt-leb attribute_limit n (omega (arith, attribute_limit_is))
