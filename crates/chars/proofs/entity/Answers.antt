-- `entity` finds the first row that goes on so. Assumes nothing.
use Rattle.std.proofs.Common.{rules}
use Rattle.std.proofs.lemmas.Iterator.{first_from_Range}
use mathlib.Core.Path.{◌≡◌}
use mathlib.Core.Bool.{true, false}
use borrow.Author.Tests.{tests}
use Rattle.chars.specs.Entities.{entity_table, goes_on}
use Rattle.chars.specs.Entities.Laws.{row_found}
use Rattle.chars.proofs.entity.Goals as goal

pub returns : goal.returns
returns c =
    let a = c.args in
    let found =
    first_from_Range _ _ _ c.find.result (λ k. goes_on entity_table k a.like a.n a.b ≡ true) (λ k. goes_on entity_table k a.like a.n a.b ≡ false)
    c.find.ensures.ran (λ x q k. search (rules, tests)) (λ x q k. search (rules, tests)) in
    row_found a.like a.n a.b _ found
