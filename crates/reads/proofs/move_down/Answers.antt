-- `reads::move_down` meets its contract: the first bytes are those from `from` on, and the others are as they were. Assumes nothing.
use Rattle.std.proofs.Common.{arith, rules}
use Rattle.std.proofs.lemmas.List.{places}
use Rattle.reads.proofs.Moved.{put_moved_down}
use Rattle.reads.proofs.move_down.Goals as goal

pub returns : goal.returns
returns c =
    put_moved_down c.args.from c.args.left c.requires (search (rules, places)) (λ k d h. grind (arith, places)) (λ k d h i. grind (arith, places))
