-- The bytes of a step's record, by their place in the query.
--
--   byte_in      byte `at` of the step that has s steps before it
--
-- Assumes nothing.
use Prim.Native.Nat.{ℕ, ◌+◌, ◌*◌, ◌<◌}
use native.Mathlib.Omega.{arith}
use mathlib.Core.Path.{◌≡◌, sym, ap, ◌∙◌}
use mathlib.Core.List.{List}
use lib.ListN.{get_or, drop}
use lib.Seq.{get_or-take, get_or-drop}
use Rattle.query.specs.Rules.{step_bytes, step_of}

module _ (q : List ℕ) (s at : ℕ) (h : at < step_bytes) where
  pub byte_in : get_or q (s * step_bytes + at) 0 ≡ get_or (step_of q s) at 0
  byte_in =
      let e : s * step_bytes + at ≡ step_bytes * s + at = omega arith in
      ap (λ i. get_or q i 0) e ∙ sym (get_or-take step_bytes (drop (step_bytes * s) q) at 0 h ∙ get_or-drop (step_bytes * s) q at 0)
