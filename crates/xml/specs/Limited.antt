-- The reader's own limits, as limits of the grammar.
--
--   bounds           names of at most 64 bytes, at most 16 attributes, at most 256 elements inside each other
--
-- Assumes nothing. NOT here: the numbers (Bounds).
use Rattle.std.specs.Prelude.{ℕ, suc, ◌≤◌, T, leb}
use Rattle.std.proofs.Common.{arith, leb→le, le→leb}
use Rattle.xml.specs.Bounds.{name_limit, attribute_limit, nest_limit}
use Rattle.xml.specs.Grammar.{Limits}

pub fewer : (most n : ℕ) → T (leb (suc n) most) → T (leb n most)
fewer most n t = let h : suc n ≤ most = leb→le (suc n) most t in le→leb n most (omega arith)

abbrev pub bounds : Limits
bounds =
    record {
      name = λ n. leb n name_limit;
      atts = λ n. leb n attribute_limit;
      nest = λ n. leb n nest_limit;
      name_down = λ n t. fewer name_limit n t;
      atts_down = λ n t. fewer attribute_limit n t;
    }
