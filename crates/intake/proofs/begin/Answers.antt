-- `intake::begin` meets its contract. Assumes nothing.
use mathlib.Core.Path.{ap}
use mathlib.Core.Bool.{false}
use Rattle.intake.proofs.begin.Goals as goal

pub returns : goal.returns
returns c = ap (λ r. record { reader = r; from = 0; end = 0; taken = 0; refusal = 0; ended = false; written = 0 }) c.begin.ensures
