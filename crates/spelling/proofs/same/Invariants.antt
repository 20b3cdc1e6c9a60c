-- `same` compares four bytes a turn. The invariant: the bytes before are the same.
-- Assumes nothing.
use Prim.Native.Nat.{◌<◌}
use Rattle.spelling.specs.Same.Laws.{Agree}
use Rattle.spelling.proofs.same.Given as goal

abbrev pub invariant-loop-k : goal.invariant-loop-k
invariant-loop-k l = (l.k < l.n) × Agree l.a l.b l.k
