-- What one event does to the session's numbers, both lent rooms and the buffer, for all their values: the engine's own functions (crate engine, Quick) on
-- the records in use, the others as they were.
--
--   After, after              what an event comes to: its refusal, or 0, how many nodes were handed out, and all that was lent
--   listed_in r               how many nodes were handed out where the code answers r: none beside a refusal
--   refused_with r n E N out   a refusal: all as it was
--   moved_out P depth held E N      the nodes that wait at the innermost of `depth` elements move up out of it or leave
--   open_taken, close_taken     an open and a close that nothing refuses;  on_open, on_close: any open and close of x
--   step P e n E N out        the event e, or a record that is none
--
-- Assumes nothing. NOT here: the refusals by the numbers, and the numbers afterwards (crate tally); an open before anything is handed out (crate opening); that
-- this is the engine's event on the state that the rooms hold (crate right).
use Rattle.std.specs.Prelude.{ℕ, ◌+◌, ◌-◌, Option, None, Some, Result, Ok, Err, List, eqb, ltb, length, take}
use mir.Val.{bool_byte}
use Rattle.choice.specs.When.{when}
use Rattle.meaning.specs.Refusals.{bad_record, too_many_held}
use Rattle.limits.specs.declared.Refusal.{Refusal}
use Rattle.records.specs.declared.Event.{Event}
use Rattle.records.specs.declared.Event.TheVariants.{Open, Close}
use Rattle.plan.specs.Plan.{Plan}
use Rattle.engine.specs.Quick.{possible_at, cut, went_if}
use Rattle.element.specs.Element.{Elements, frame_at}
use Rattle.node.specs.Node.{Queue}
use Rattle.nodes.specs.Nodes.{level_of, Moved, moved_from, Handed, handed_out, Joined, joined}
use Rattle.numbers.specs.Numbers.{Numbers}
use Rattle.opening.specs.Opening.{Opened, opening_in, over_in}
use Rattle.tally.specs.Tally.{refuse_open, refuse_close, open_numbers, close_numbers}

pub record After : Type 0 where
  pub refusal : ℕ
  pub listed : ℕ
  pub numbers : Numbers
  pub elements : Elements
  pub nodes : Queue
  pub out : List ℕ

abbrev pub after : ℕ → ℕ → Numbers → Elements → Queue → List ℕ → After
after refusal listed n E N out = record { refusal = refusal; listed = listed; numbers = n; elements = E; nodes = N; out = out }

abbrev pub listed_in : Result ℕ Refusal → ℕ
listed_in (Ok k) = k
listed_in (Err r) = 0

abbrev pub refused_with : ℕ → Numbers → Elements → Queue → List ℕ → After
refused_with r n E N out = after r 0 n E N out

-- an open, by which nodes go and what becomes of them

abbrev pub open_with : Numbers → Opened → Joined → After
open_with n o j =
    let listed : ℕ = o.going.went + bool_byte o.going.all in
    after 0 listed (open_numbers n j.held listed) o.elements j.queue j.out

abbrev pub open_by : Numbers → Queue → List ℕ → Opened → After
open_by n N out o = open_with n o (joined o.going n.held (n.opened + 1) (n.depth + 1) N out)

unfoldable pub open_taken : Plan → ℕ → Numbers → Elements → Queue → List ℕ → After
open_taken P x n E N out = open_by n N out (opening_in P x n.depth n.held E N)

unfoldable pub on_open : Plan → ℕ → Numbers → Elements → Queue → List ℕ → After
on_open P x n E N out =
    when (eqb (refuse_open n) 0)
    (when (over_in P x n.depth n.held E N) (refused_with too_many_held n E N out) (open_taken P x n E N out))
    (refused_with (refuse_open n) n E N out)

-- a close, by the nodes that still wait and how many of them go

-- where the nodes of the innermost element begin
abbrev pub moved_out_from : Plan → ℕ → ℕ → Elements → Queue → ℕ → Moved
moved_out_from P depth held E N from = moved_from P (frame_at E (depth - 1)).met (possible_at P E.list (depth - 1)) (depth - 1) held from from N

unfoldable pub moved_out : Plan → ℕ → ℕ → Elements → Queue → Moved
moved_out P depth held E N = moved_out_from P depth held E N (length (cut level_of depth (take held N.list)).before)

abbrev pub close_with : Numbers → Elements → ℕ → ℕ → Handed → After
close_with n E left went h = after 0 went (close_numbers n (left - went) went) E h.queue h.out

abbrev pub close_out : Numbers → Elements → List ℕ → Moved → ℕ → After
close_out n E out w went = close_with n E w.held went (handed_out went w.held w.queue out)

abbrev pub close_by : Plan → Numbers → Elements → List ℕ → Moved → After
close_by P n E out w =
    close_out n E out w (went_if (ltb w.held n.held) P (take (n.depth - 1) E.list) (take w.held w.queue.list))

unfoldable pub close_taken : Plan → Numbers → Elements → Queue → List ℕ → After
close_taken P n E N out = close_by P n E out (moved_out P n.depth n.held E N)

unfoldable pub on_close : Plan → ℕ → Numbers → Elements → Queue → List ℕ → After
on_close P x n E N out =
    when (eqb (refuse_close n E x) 0) (close_taken P n E N out) (refused_with (refuse_close n E x) n E N out)

-- "2: not 8 bytes, or a bad record"
unfoldable pub step : Plan → Option Event → Numbers → Elements → Queue → List ℕ → After
step P (Some (Open x)) n E N out = on_open P x n E N out
step P (Some (Close x)) n E N out = on_close P x n E N out
step P None n E N out = refused_with bad_record n E N out
