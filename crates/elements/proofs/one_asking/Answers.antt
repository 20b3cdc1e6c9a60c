-- The outcome of the comparison, shifted to its place. Assumes nothing.
use mathlib.Core.Path.{ap, ◌∙◌}
use lib.Dec.{eqb}
use Rattle.sets.specs.Set.{only_if}
use Rattle.sets.proofs.Collect.{flag_shift}
use Rattle.elements.proofs.one_asking.Goals as goal

pub returns : goal.returns
returns c =
    let args = c.args in
    flag_shift 32 _ _ c.requires ∙ ap (λ n. only_if (eqb n args.x) args.place) c.name.ensures
