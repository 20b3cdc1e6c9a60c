-- What a return of a tag's byte goes by, beside `tests` and `moved`.
--
--   together             the reader and its room
--   deep, not_deep, deeper, not_deeper      the limit of the depth;  long, not_long, many, not_many: of a name's bytes, of a tag's attributes
--   found                these laws, for a search
--
-- The laws take all their arguments, so that a search can give them. Assumes nothing.
use Rattle.std.specs.Prelude.{ℕ, ◌≤◌, ◌<◌, ◌≡◌, true, false, List, leb, ltb}
use Rattle.std.proofs.Common.{arith, ap₂, lt-ltb, le-ltb, le-leb}
use Rattle.std.proofs.lemmas.Bool.{lt-leb}
use Rattle.meaning.specs.Limits.{depth_limit}
use Rattle.meaning.proofs.Limits.Laws.{depth_is}
use Rattle.xml.specs.Bounds.{name_limit, attribute_limit}
use Rattle.xml.proofs.Bounds.Laws.{name_limit_is, attribute_limit_is}
use Rattle.modes.specs.declared.Reader.{Reader}
use Rattle.tags.specs.Markup.{Ticked}

pub together : (x y : Reader) (R S : List ℕ) → x ≡ y → R ≡ S → ◌≡◌ {A = Ticked} (record { reader = x; room = R }) (record { reader = y; room = S })
together x y R S e f = ap₂ (λ u v. record { reader = u; room = v }) e f

pub deep : (p : ℕ) → 256 ≤ p → leb depth_limit p ≡ true
deep p h = le-leb depth_limit p (omega (arith, depth_is))

pub not_deep : (p : ℕ) → p < 256 → leb depth_limit p ≡ false
not_deep p h = lt-leb depth_limit p (omega (arith, depth_is))

pub deeper : (p : ℕ) → 256 < p → ltb depth_limit p ≡ true
deeper p h = lt-ltb depth_limit p (omega (arith, depth_is))

pub not_deeper : (p : ℕ) → p ≤ 256 → ltb depth_limit p ≡ false
not_deeper p h = le-ltb depth_limit p (omega (arith, depth_is))

pub long : (n : ℕ) → 64 ≤ n → leb name_limit n ≡ true
long n h = le-leb name_limit n (omega (arith, name_limit_is))

pub not_long : (n : ℕ) → n < 64 → leb name_limit n ≡ false
not_long n h = lt-leb name_limit n (omega (arith, name_limit_is))

pub many : (n : ℕ) → 16 ≤ n → leb attribute_limit n ≡ true
many n h = le-leb attribute_limit n (omega (arith, attribute_limit_is))

pub not_many : (n : ℕ) → n < 16 → leb attribute_limit n ≡ false
not_many n h = lt-leb attribute_limit n (omega (arith, attribute_limit_is))

pub ruleset found = (together, deep, not_deep, deeper, not_deeper, long, not_long, many, not_many)
