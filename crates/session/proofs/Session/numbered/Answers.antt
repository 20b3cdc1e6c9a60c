-- Each number as it was read. Assumes nothing.
use Rattle.numbers.specs.Numbers.{numbers_in}
use Rattle.session.specs.Event.Laws.{of_parts}
use Rattle.session.proofs.Session.numbered.Goals as goal

pub returns : goal.returns
returns c = of_parts c.args.kept (numbers_in c.args.numbers.now) _ _ _ _ _ _ c.get.ensures c.get-2.ensures c.get-3.ensures
    c.get-4.ensures c.get-5.ensures c.get-6.ensures
