-- `steps` reads a set of steps. Assumes nothing.
use Rattle.std.proofs.Common.{◌∙◌, ap, get_or}
use Rattle.words.specs.Words.{words}
use Rattle.plan_bytes.specs.Kept.Laws.{steps_is}
use Rattle.plan_bytes.proofs.steps.Goals as goal

pub returns : goal.returns
returns c = steps_is _ _ _ (c.get.ensures ∙ ap (λ i. get_or (words c.args.kept.now) i 0) c.place.ensures.0)
