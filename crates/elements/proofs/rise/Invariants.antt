-- From the innermost out: the invariant says that what is left to rise is all of it. Assumes nothing.
use mathlib.Core.Path.{◌≡◌}
use Rattle.element.specs.Element.{elements_in}
use Rattle.plan_bytes.specs.Kept.{kept_in}
use Rattle.elements.specs.Elements.{risen_in}
use Rattle.elements.proofs.rise.Given as goal

abbrev pub invariant-loop-at : goal.invariant-loop-at
invariant-loop-at l =
    risen_in (kept_in l.kept) l.news l.at (elements_in l.elements) ≡ risen_in (kept_in l.kept) l.first l.depth (elements_in l.initial.elements)
