-- What events count, and then the stop. Assumes nothing.
use mathlib.Core.Path.{ap, ◌∙◌}
use mir.Val.{bool_byte}
use Rattle.numbers.specs.Numbers.{Numbers, with_stop}
use Rattle.session.proofs.Session.lay.Goals as goal

pub returns : goal.returns
returns c = let s = c.args.self in
    c.write_stop.ensures ∙ ap (λ (n : Numbers). with_stop (bool_byte s.stopped) n) c.write.ensures
