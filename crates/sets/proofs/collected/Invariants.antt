-- `collected` calls the test at each place. The invariant: the places before this one are collected as the calls answered. Assumes nothing.
use Rattle.sets.proofs.Collect.{Called}
use Rattle.sets.proofs.collected.Given as goal

abbrev pub invariant-loop-place : goal.invariant-loop-place
invariant-loop-place g l = Called (goal.F-post g l.holds) l.place l.set
