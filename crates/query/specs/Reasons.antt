-- Why a step is at fault: the reasons of request C-18, beside refusal 10.
--
--   Due q s r            reason r applies to the step that has s steps before it: a constructor for each, in plain numbers
--   reasons_by axis role hang zero      the table of the reasons, by which rules a step keeps
--   reasons q s          the table of the step that has s steps before it
--   reasons_with r k near the same of a record alone: step k is r, and near is the nearest main-path step before it
--   lowest rs            the number of the first line of the table rs that applies, 0 where none does
--   checked r b          what the check of a rule answers: the reason r, unless the rule is kept
--
-- Assumes nothing. NOT here: that the table says what is due, and that its first line that applies has the lowest reason (Reasons.Laws); what a table is (crate
-- meaning, Table).
use Rattle.std.specs.Prelude.{ℕ, suc, Bool, true, false, not, List, [], ◌∷◌, T, Result, Ok, Err}
use Rattle.std.proofs.Math.Option.{get_or}
use Rattle.limits.specs.declared.Reason.{Reason}
use Rattle.meaning.specs.Query.{hangs_right}
use Rattle.meaning.specs.Refusals.{bad_axis, bad_role, bad_hang, bad_zero, forbidden}
use Rattle.meaning.specs.Table.{Refusal, refusal, first}
use Rattle.query.specs.Rules.{step_of, axis_byte, role_byte, on_byte, is_main, axis_rule, role_rule, hang_rule, zero_rule}

pub data Due (q : List ℕ) (s : ℕ) : ℕ → Type 0 where
  -- "axis"
  wrong_axis : T (not (axis_rule (axis_byte (step_of q s)))) → Due q s 1
  -- "role"; "Step 1 in a predicate is a fault of its role, whatever it hangs on."
  wrong_role : T (not (role_rule (suc s) (role_byte (step_of q s)))) → Due q s 2
  -- "what it hangs on"
  wrong_hang : T (not (hang_rule q s)) → Due q s 3
  -- "a byte that must be 0"
  not_zero : T (not (zero_rule (step_of q s))) → Due q s 4
  -- "a forbidden name or value": none is forbidden yet, so nothing gives 5

-- the same as a table, lowest first
unfoldable pub reasons_by : Bool → Bool → Bool → Bool → List Refusal
reasons_by axis role hang zero =
    refusal bad_axis (not axis)
    ∷ refusal bad_role (not role)
    ∷ refusal bad_hang (not hang)
    ∷ refusal bad_zero (not zero)
    ∷ refusal forbidden false
    ∷ []

unfoldable pub reasons : List ℕ → ℕ → List Refusal
reasons q s = reasons_by (axis_rule (axis_byte (step_of q s))) (role_rule (suc s) (role_byte (step_of q s))) (hang_rule q s) (zero_rule (step_of q s))

unfoldable pub reasons_with : List ℕ → ℕ → ℕ → List Refusal
reasons_with r k near =
    reasons_by (axis_rule (axis_byte r)) (role_rule k (role_byte r)) (hangs_right (is_main r) (on_byte r) k near) (zero_rule r)

-- "the lowest that applies"
unfoldable pub lowest : List Refusal → ℕ
lowest rs = get_or (first rs) 0

abbrev pub checked : Reason → Bool → Result (Unit {0}) Reason
checked r true = Ok tt
checked r false = Err r
