-- From the outermost in: the invariant says that what is left to do is all of it. Assumes nothing.
use mathlib.Core.Path.{◌≡◌}
use Rattle.element.specs.Element.{elements_in}
use Rattle.plan_bytes.specs.Kept.{kept_in}
use Rattle.elements.specs.Elements.{refreshed_from}
use Rattle.elements.proofs.refresh.Given as goal

abbrev pub invariant-loop-at : goal.invariant-loop-at
invariant-loop-at l =
    refreshed_from (kept_in l.kept) l.around l.at l.to (elements_in l.elements)
    ≡ refreshed_from (kept_in l.kept) l.ready l.from l.to (elements_in l.initial.elements)
