-- The rows of the entities, looked at one after the other.
--
--   entity_here, entity_on      the row looked at goes on so, and does not
--   entity_none                 no row is left
--   row_found                   the row that `find` gives, as the code has it
--
-- Assumes nothing.
use Rattle.std.specs.Prelude.{ℕ, zero, suc, ◌+◌, ◌-◌, ◌≤◌, ◌<◌, ◌≡◌, refl, Bool, true, false, Option, Some, None, List}
use Rattle.std.proofs.Math.Path.{ap}
use Rattle.std.proofs.Common.{arith, sym, ◌∙◌, ne_eqb}
use Rattle.std.specs.Option.{MatchOption}
use Rattle.choice.specs.When.{when_true, when_false}
use Rattle.choice.specs.Count.{left, gone}
use Rattle.chars.specs.Entities.{no_entity, entity_table, goes_on, entity_from, entity_row, row_in}

module _ (T : List ℕ) (like n b row k : ℕ) where
  pub entity_here : row < k → goes_on T row like n b ≡ true → entity_from T like n b row (k - row) ≡ row
  unfolding entity_from
  entity_here h t = ap (entity_from T like n b row) (left k row h) ∙ when_true _ row (entity_from T like n b (row + 1) (k - (row + 1))) t

  pub entity_on : row < k → goes_on T row like n b ≡ false → entity_from T like n b row (k - row) ≡ entity_from T like n b (row + 1) (k - (row + 1))
  unfolding entity_from
  entity_on h t = ap (entity_from T like n b row) (left k row h) ∙ when_false _ row (entity_from T like n b (row + 1) (k - (row + 1))) t

  pub entity_none : k ≤ row → entity_from T like n b row (k - row) ≡ no_entity
  unfolding entity_from
  entity_none h = ap (entity_from T like n b row) (gone k row h)

row_there : (k : ℕ) → k < no_entity → row_in k ≡ Some k
row_there k l = when_false _ _ _ (ne_eqb k no_entity (λ e. omega arith))

-- the first row that goes on so, if any does, as `find` gives it
module _ (like n b : ℕ) where
  Goes : ℕ → Bool → Type 0
  Goes row t = goes_on entity_table row like n b ≡ t

  from_row : ℕ → ℕ
  from_row row = entity_from entity_table like n b row (5 - row)

  first_at : (i : ℕ) → i < 5 → Goes i true → (m row : ℕ) → i ≡ row + m → ((k : ℕ) → row ≤ k → k < i → Goes k false) → from_row row ≡ i
  unfolding Goes from_row
  first_at i l here zero row e f =
      let same : i ≡ row = omega arith in
      entity_here entity_table like n b row 5 (omega arith) (ap (λ k. goes_on entity_table k like n b) (sym same) ∙ here) ∙ sym same
  first_at i l here (suc m) row e f =
      entity_on entity_table like n b row 5 (omega arith) (f row (omega arith) (omega arith))
      ∙ first_at i l here m (row + 1) (omega arith) (λ k h j. f k (omega arith) j)

  none_at : (m row : ℕ) → 5 ≡ row + m → ((k : ℕ) → row ≤ k → k < 5 → Goes k false) → from_row row ≡ no_entity
  unfolding Goes from_row
  none_at zero row e f = entity_none entity_table like n b row 5 (omega arith)
  none_at (suc m) row e f =
      entity_on entity_table like n b row 5 (omega arith) (f row (omega arith) (omega arith))
      ∙ none_at m (row + 1) (omega arith) (λ k h j. f k (omega arith) j)

  pub row_found :
      (r : Option ℕ) →
      MatchOption r ((k : ℕ) → 0 ≤ k → k < 5 → goes_on entity_table k like n b ≡ false)
      (λ i. (0 ≤ i) × (i < 5) × (goes_on entity_table i like n b ≡ true) × ((k : ℕ) → 0 ≤ k → k < i → goes_on entity_table k like n b ≡ false)) →
      r ≡ row_in (entity_row like n b)
  unfolding entity_row Goes from_row
  row_found None f = sym (ap row_in (none_at 5 0 refl f) ∙ when_true _ _ _ refl)
  row_found (Some i) f = sym (ap row_in (first_at i f.1 f.2 i 0 (omega arith) f.3) ∙ row_there i f.1)
