-- Document 01's query rules, over the bytes of a query: a list of numbers, each under 256.
--
--   step_bytes            the bytes of a step's record
--   most_steps, longest   the most steps of a query, and its most bytes
--   wrong_length n        a query of n bytes is refused for its length
--   Right n              n is right for a length: what is left where it is not wrong
--   steps q              how many steps q has
--   step_of q s           the record of the step that has s steps before it: its number is s + 1
--   axis_byte r ..        what stands in which byte of a step's record r
--   is_main r             r is on the main path
--   axis_named b          the axis that the axis byte b names, if it names one
--   axis_rule b           the axis byte b names an axis
--   is_role b             the role byte b is one of the two
--   role_rule k b         step k may have the role byte b
--   nearest q s          the nearest main-path step among the first s steps, 0 where there is none
--   hang_rule q s         the step that has s steps before it hangs where it may; later_rule: the same where it is not step 1
--   zero_rule r           the bytes that have to be 0 are
--   keeps q s            the step that has s steps before it keeps every rule
--
-- Assumes nothing. NOT here: which reason a step at fault gets (Reasons) and which answer a query (Answer), what it means (Decode), laws (Rules.Laws).
use Rattle.std.specs.Prelude.{ℕ, zero, suc, ◌+◌, ◌*◌, ◌/◌, ◌%◌, ◌≤◌, ◌<◌, ◌≡◌, Bool, true, false, not, ◌&&◌, ◌||◌}
use Rattle.std.specs.Prelude.{Option, Some, None, is_some, List, eqb, leb, ltb, length, get_or, take, drop}
use Rattle.meaning.specs.Query.{nearer}
use Rattle.query.specs.declared.Axis.{Axis}
use Rattle.query.specs.declared.Axis.TheVariants.{Child, Descendant}

-- "Query step, 8 bytes, at most 32 steps."
abbrev pub step_bytes : ℕ
step_bytes = 8

abbrev pub most_steps : ℕ
most_steps = 32

abbrev pub longest : ℕ
longest = most_steps * step_bytes

-- "query of 0 bytes, of a length not a multiple of 8, or over 256 bytes"
abbrev pub wrong_length : ℕ → Bool
wrong_length n = eqb n 0 || (not (eqb (n % step_bytes) 0) || ltb longest n)

-- a length of whole steps, 1 to 32
pub record Right (n : ℕ) : Type 0 where
  pub some : 0 < n
  pub whole : n % step_bytes ≡ 0
  pub short : n ≤ longest

-- the records

abbrev pub steps : List ℕ → ℕ
steps q = length q / step_bytes

abbrev pub step_of : List ℕ → ℕ → List ℕ
step_of q s = take step_bytes (drop (step_bytes * s) q)

abbrev pub axis_byte : List ℕ → ℕ
axis_byte r = get_or r 0 0

abbrev pub role_byte : List ℕ → ℕ
role_byte r = get_or r 1 0

abbrev pub on_byte : List ℕ → ℕ
on_byte r = get_or r 2 0

-- "Two-byte numbers have the high byte first."
abbrev pub name_number : List ℕ → ℕ
name_number r = get_or r 4 0 * 256 + get_or r 5 0

abbrev pub is_main : List ℕ → Bool
is_main r = eqb (role_byte r) 1

-- the rules

abbrev pub axis_case : Bool → Bool → Option Axis
axis_case true isTwo = Some Child
axis_case false true = Some Descendant
axis_case false false = None

-- "axis: 1 child, 2 descendant"
abbrev pub axis_named : ℕ → Option Axis
axis_named b = axis_case (eqb b 1) (eqb b 2)

abbrev pub axis_rule : ℕ → Bool
axis_rule b = is_some (axis_named b)

-- "1 on the main path, 0 in a predicate"
abbrev pub is_role : ℕ → Bool
is_role b = eqb b 1 || eqb b 0

-- "Step 1 is on the main path"
abbrev pub role_rule : ℕ → ℕ → Bool
role_rule k b = is_role b && (eqb b 1 || ltb 1 k)

unfoldable pub nearest : List ℕ → ℕ → ℕ
nearest q zero = 0
nearest q (suc s) = nearer (is_main (step_of q s)) (suc s) (nearest q s)

-- "Any later main-path step hangs on the nearest main-path step before it."
-- "A predicate step hangs on any earlier step and never on 0."
unfoldable pub later_rule : Bool → ℕ → ℕ → ℕ → Bool
later_rule true on earlier near = eqb on near
later_rule false on earlier near = leb on earlier && not (eqb on 0)

-- "Step 1 is on the main path and hangs on 0."
unfoldable pub hang_rule : List ℕ → ℕ → Bool
hang_rule q zero = is_main (step_of q zero) && eqb (on_byte (step_of q zero)) 0
hang_rule q (suc s) = later_rule (is_main (step_of q (suc s))) (on_byte (step_of q (suc s))) (suc s) (nearest q (suc s))

-- "3: 0", "6, 7: 0"
abbrev pub zero_rule : List ℕ → Bool
zero_rule r = eqb (get_or r 3 0) 0 && (eqb (get_or r 6 0) 0 && eqb (get_or r 7 0) 0)

unfoldable pub keeps : List ℕ → ℕ → Bool
keeps q s =
    axis_rule (axis_byte (step_of q s)) && (role_rule (suc s) (role_byte (step_of q s)) && (hang_rule q s && zero_rule (step_of q s)))
