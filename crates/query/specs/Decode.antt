-- What the bytes of a query mean: a query of crate meaning.
--
--   axis_meant a      the axis of crate meaning that a named axis byte means
--   decode_step r     the step that a record means
--   decode_from q n s n steps of q, of which the first has s steps before it
--   decode q         the query that the bytes q mean
--   Meant q          what every admitted query gives the theorems of crate meaning
--   Shaped q         the length is right, and each step has an axis, a role and its zeros: all but what it hangs on
--
-- Assumes nothing. NOT here: that an admitted query is meant (Decode.Laws).
use Rattle.std.specs.Prelude.{ℕ, zero, suc, ◌*◌, ◌≤◌, ◌<◌, ◌≡◌, true, false, List, [], ◌∷◌, T, length, Option, Some, None}
pub use Rattle.meaning.specs.Record.{Bytes}
use Rattle.meaning.specs.Query.{Axis, child, descendant, Step, Query, admits}
use Rattle.query.specs.Rules.{step_bytes, most_steps, wrong_length, steps, step_of, axis_byte, role_byte}
use Rattle.query.specs.Rules.{on_byte, name_number, is_main, is_role, axis_named, axis_rule, zero_rule}
use Rattle.query.specs.declared.Axis as declared
use Rattle.query.specs.declared.Axis.TheVariants.{Child, Descendant}

-- no admitted query has a byte that names no axis
unfoldable pub axis_meant : Option declared.Axis → Axis
axis_meant (Some Child) = child
axis_meant (Some Descendant) = descendant
axis_meant None = child

unfoldable pub decode_step : List ℕ → Step
decode_step r = record { axis = axis_meant (axis_named (axis_byte r)); main = is_main r; parent = on_byte r; name = name_number r }

unfoldable pub decode_from : List ℕ → ℕ → ℕ → Query
decode_from q zero s = []
decode_from q (suc n) s = decode_step (step_of q s) ∷ decode_from q n (suc s)

unfoldable pub decode : List ℕ → Query
decode q = decode_from q (steps q) 0

pub record Meant (q : List ℕ) : Type 0 where
  pub admitted : T (admits (decode q))
  pub whole : length q ≡ step_bytes * length (decode q)
  pub some : 1 ≤ length (decode q)
  pub most : length (decode q) ≤ most_steps

pub record Shaped (q : List ℕ) : Type 0 where
  pub right : wrong_length (length q) ≡ false
  pub axis : (s : ℕ) → s < steps q → axis_rule (axis_byte (step_of q s)) ≡ true
  pub role : (s : ℕ) → s < steps q → is_role (role_byte (step_of q s)) ≡ true
  pub zero : (s : ℕ) → s < steps q → zero_rule (step_of q s) ≡ true
