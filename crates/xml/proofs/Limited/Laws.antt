-- The reader's own limits in numbers.
--
--   name_taken, atts_taken, nest_taken       what each takes: up to 64, 16 and 256
--
-- Assumes nothing.
use Rattle.std.specs.Prelude.{ℕ, ◌≤◌, ◌↔◌, T}
use Rattle.std.proofs.Common.{arith, leb→le, le→leb}
use Rattle.meaning.proofs.Limits.Laws.{depth_is}
use Rattle.xml.specs.Bounds.{name_limit, attribute_limit, nest_limit}
use Rattle.xml.proofs.Bounds.Laws.{name_limit_is, attribute_limit_is}
use Rattle.xml.specs.Limited.{bounds}

pub name_taken : (n : ℕ) → T (bounds.name n) ↔ (n ≤ 64)
name_taken n = (λ t. omega (arith, leb→le n name_limit t, name_limit_is), λ h. le→leb n name_limit (omega (arith, name_limit_is)))

pub atts_taken : (n : ℕ) → T (bounds.atts n) ↔ (n ≤ 16)
atts_taken n = (λ t. omega (arith, leb→le n attribute_limit t, attribute_limit_is), λ h. le→leb n attribute_limit (omega (arith, attribute_limit_is)))

pub nest_taken : (n : ℕ) → T (bounds.nest n) ↔ (n ≤ 256)
nest_taken n = (λ t. omega (arith, leb→le n nest_limit t, depth_is), λ h. le→leb n nest_limit (omega (arith, depth_is)))
