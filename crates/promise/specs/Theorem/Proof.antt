-- THE THEOREM: the library keeps its promise.
--
--   library       the page's record, field by field
--
-- Assumes nothing.
use Rattle.promise.specs.Theorem.{Library}
use Rattle.promise.specs.Theorem.Replies.{begins, promised, same, begin_some, event_some, finish_some, uses_one}
use Rattle.promise.specs.Theorem.Blocks.{first_part, run_some, use_some, block}
use Rattle.promise.specs.Theorem.Stop.{ceased}

pub library : Library
library =
    record {
      begins = begins;
      keeps = λ x. promised x;
      ceases = λ x t y. ceased x t y;
      blocks = λ x. block x;
      same = same;
      first_part = λ us us' x. first_part us us' x;
      some_begin = begin_some;
      some_event = event_some;
      some_finish = finish_some;
      some_run = run_some;
      some_use = λ x. use_some x;
      one = λ b E N r r' g g' p p'. uses_one b E N r r' g g' p p';
    }
