-- The invariant says that the events so far are a first part of the block (Fed.Laws), and that the iterator has the rest of them. Assumes nothing.
use Rattle.std.proofs.Common.{◌≡◌, ◌*◌, drop}
use Rattle.numbers.specs.Numbers.{numbers_in}
use Rattle.plan_bytes.specs.Kept.{kept_in}
use Rattle.feed.specs.Fed.{UnderwayUnrefused}
use Rattle.feed.specs.Steps.{seat, step_at}
use Rattle.feed.proofs.feed.Given as goal

abbrev pub invariant-loop-taken : goal.invariant-loop-taken
invariant-loop-taken l = record {
  next : (goal.iterator-loop-taken).can_next l.taken-iterator;
  finite : (goal.iterator-loop-taken).is_finite l.taken-iterator;
  size : l.taken-iterator.iter.size ≡ 8;
  rest : l.taken-iterator.iter.rest.now ≡ drop (8 * l.taken-iterator.count) l.events;
  underway : UnderwayUnrefused (step_at (kept_in l.kept)) (seat (numbers_in l.initial.numbers) l.initial.elements l.initial.nodes) l.events l.initial.out
      (record {
        seat = seat (numbers_in l.numbers) l.elements l.nodes;
        taken = l.taken-iterator.count;
        listed = l.listed;
        refusal = 0;
        out = l.out;
      });
}
