-- `is_name` looks at the first byte and at the others. Assumes nothing.
use Rattle.std.proofs.Common.{rules, arith}
use Rattle.std.proofs.lemmas.Iterator.{YieldsList-from_slice}
use Rattle.std.proofs.lemmas.Iterator.Search.{all_from_yields_List}
use Rattle.std.proofs.lemmas.Slice.{between_to_end}
use mathlib.Core.Path.{sym, ap, ap₂, ◌∙◌}
use mathlib.Core.Bool.{◌&&◌}
use lib.ListN.{drop}
use borrow.Author.Tests.{tests}
use Rattle.xml.specs.Class.{in_class}
use Rattle.xml.specs.Chars.{name_char}
use Rattle.listed.specs.Listed.{all_in}
use Rattle.listed.specs.Listed.Laws.{name_begins, name_none}
use Rattle.listed.proofs.is_name.Goals as goal

pub returns-in-empty : goal.returns-in-empty
returns-in-empty c = name_none c.args.line.now c.in-empty.len_below

pub returns-then-starts : goal.returns-then-starts
unfolding all_in
returns-then-starts c =
    let line = c.args.line.now in
    let rest =
    all_from_yields_List (in_class name_char) _ _ c.all.result c.all.ensures.ran (YieldsList-from_slice _ c.iter.ensures.rest)
    (λ x b q k. search (rules, tests)) in
    sym (name_begins line (omega arith)
    ∙ ap₂ ◌&&◌ (sym c.starts.ensures ∙ c.if-starts.true) (sym (rest ∙ ap (all_in name_char) (between_to_end line 1 _ (omega arith)))))

pub returns-else-starts : goal.returns-else-starts
returns-else-starts c =
    let line = c.args.line.now in
    c.if-starts.false ∙ sym (name_begins line (omega arith) ∙ ap (λ x. x && all_in name_char (drop 1 line)) (sym c.starts.ensures ∙ c.if-starts.false))
