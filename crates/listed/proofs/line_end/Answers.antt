-- `line_end` looks for the first line feed. Assumes nothing.
use Rattle.std.proofs.Common.{rules, arith}
use Rattle.std.proofs.lemmas.Iterator.{YieldsList-from_slice}
use Rattle.std.proofs.lemmas.Iterator.Search.{position_from_yields_List}
use Rattle.std.proofs.lemmas.Slice.{between_to_end}
use Prim.Native.Nat.{◌+◌}
use mathlib.Core.Path.{◌∙◌, ap}
use borrow.Author.Tests.{tests}
use lib.Dec.{eqb}
use Rattle.listed.specs.Lines.{line_length}
use Rattle.listed.specs.Lines.Laws.{line_found}
use Rattle.listed.proofs.line_end.Goals as goal

pub returns : goal.returns
returns c =
    let names = c.args.names.now in
    let from = c.args.from in
    let found =
    position_from_yields_List (λ b. eqb b 10) _ _ c.position.result c.position.ensures.ran (YieldsList-from_slice _ c.iter.ensures.rest)
    (λ x b q k. search (rules, tests)) in
    ap (λ n. from + n) (c.unwrap_or.ensures ∙ line_found _ _ found ∙ ap line_length (between_to_end names from _ (omega arith)))
