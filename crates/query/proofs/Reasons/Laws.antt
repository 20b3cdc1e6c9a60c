-- The table of the reasons says what applies, and its first line that applies is the lowest reason.
--
--   reason_given         what the table gives: the lowest reason of a line that applies; none, where none does
--   applies_exactly      a line of the table applies exactly if its reason is due
--   keeps_exactly        a step keeps every rule exactly if no reason is due to it
--   four_at_most         the reasons that may be due are 1 to 4: nothing gives 5 yet
--   reasons_is           the table of a step is that of its record, with the nearest main-path step before it
--   lowest_none, lowest_some      the lowest reason as a number says whether there is one
--
-- Assumes nothing.
use Rattle.std.specs.Prelude.{ℕ, suc, ◌≤◌, ◌<◌, ◌↔◌, ◌≡◌, Bool, true, not, T}
use Rattle.std.proofs.Common.{arith, sym, subst, T_not}
use Rattle.std.proofs.Math.Path.{refl}
use mathlib.Core.List.Memᴰ
use mathlib.Core.List.{List, Memᴰ}
use Rattle.std.proofs.Math.Option.{Option, none, some, get_or}
use Rattle.std.proofs.lemmas.Bool.{not-false}
use Rattle.meaning.specs.Logic.{is_false}
use Rattle.meaning.specs.Table.{Refusal, refusal, first}
use Rattle.meaning.proofs.Table.Laws.{in_order, Outcome, first_is, none_is, first_outcome, line_due, due_line}
use Rattle.query.specs.Rules.{step_of, nearest, keeps}
use Rattle.query.proofs.Rules.Laws.{hang_rule_is, keeps_each}
use Rattle.query.specs.Reasons.{Due, wrong_axis, wrong_role, wrong_hang, not_zero, reasons_by, reasons, reasons_with, lowest}

-- a rule that is broken is not kept, and one that is not broken is

refuted : (b : Bool) → T (not b) → b ≡ true → ⊥
refuted b t e = T_not b t (subst T (sym e) tt)

unrefuted : (b : Bool) → (T (not b) → ⊥) → b ≡ true
unrefuted b f = not-false b (is_false (not b) f)

module _ (q : List ℕ) (s : ℕ) where
  -- lowest first
  pub reason_given : Outcome (λ r. r) (reasons q s) (first (reasons q s))
  unfolding reasons reasons_by in_order
  reason_given = first_outcome (λ r. r) 0 (reasons q s) tt

  applies_due : (r : ℕ) → Memᴰ (refusal r true) (reasons q s) → Due q s r
  unfolding reasons reasons_by
  applies_due r =
      line_due (Due q s) 1 _ wrong_axis
      (line_due (Due q s) 2 _ wrong_role
      (line_due (Due q s) 3 _ wrong_hang
      (line_due (Due q s) 4 _ not_zero
      (line_due (Due q s) 5 _ (λ t. absurd t)
      (λ m. absurd (Memᴰ.not-nil m))))))

  due_applies : {r : ℕ} → Due q s r → Memᴰ (refusal r true) (reasons q s)
  unfolding reasons reasons_by
  due_applies (wrong_axis t) = due_line 1 _ t
  due_applies (wrong_role t) = Memᴰ.tail (due_line 2 _ t)
  due_applies (wrong_hang t) = Memᴰ.tail (Memᴰ.tail (due_line 3 _ t))
  due_applies (not_zero t) = Memᴰ.tail (Memᴰ.tail (Memᴰ.tail (due_line 4 _ t)))

  pub applies_exactly : (r : ℕ) → Memᴰ (refusal r true) (reasons q s) ↔ Due q s r
  applies_exactly r = (applies_due r, due_applies)

  breaks : {r : ℕ} → Due q s r → keeps q s ≡ true → ⊥
  breaks (wrong_axis t) e = refuted _ t ((keeps_each q s).0 e).0
  breaks (wrong_role t) e = refuted _ t ((keeps_each q s).0 e).1
  breaks (wrong_hang t) e = refuted _ t ((keeps_each q s).0 e).2
  breaks (not_zero t) e = refuted _ t ((keeps_each q s).0 e).3

  pub keeps_exactly : (keeps q s ≡ true) ↔ ((r : ℕ) → Due q s r → ⊥)
  keeps_exactly = (
    λ e r a. breaks a e,
    λ f. (keeps_each q s).1 (
      unrefuted _ (λ t. f 1 (wrong_axis t)),
      unrefuted _ (λ t. f 2 (wrong_role t)),
      unrefuted _ (λ t. f 3 (wrong_hang t)),
      unrefuted _ (λ t. f 4 (not_zero t)),
    ),
  )

  pub four_at_most : {r : ℕ} → Due q s r → (1 ≤ r) × (r ≤ 4)
  four_at_most (wrong_axis t) = (omega arith, omega arith)
  four_at_most (wrong_role t) = (omega arith, omega arith)
  four_at_most (wrong_hang t) = (omega arith, omega arith)
  four_at_most (not_zero t) = (omega arith, omega arith)

  -- no reason is 0
  pub lowest_none : lowest (reasons q s) ≡ 0 → first (reasons q s) ≡ none
  unfolding lowest
  lowest_none e = by reason_given e
    where
      by : {o : Option ℕ} → Outcome (λ r. r) (reasons q s) o → get_or o 0 ≡ 0 → o ≡ none
      by (none_is f) e = refl
      by (first_is {r} m f) e = absurd (omega (arith, (four_at_most (applies_due r m)).0))

  pub reasons_is : reasons q s ≡ reasons_with (step_of q s) (suc s) (nearest q s)
  unfolding reasons reasons_with
  reasons_is = rw (hang_rule_is q s)

-- as a number

pub lowest_some : (rs : List Refusal) → 0 < lowest rs → first rs ≡ some (lowest rs)
unfolding lowest
lowest_some rs h = by (first rs) h
  where
    by : (o : Option ℕ) → 0 < get_or o 0 → o ≡ some (get_or o 0)
    by none l = absurd (omega arith)
    by (some r) l = refl
