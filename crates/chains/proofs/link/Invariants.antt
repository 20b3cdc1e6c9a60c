-- `link` puts one place a turn into its chain. The invariant is Linking.Chaining.
-- Assumes nothing.
use Rattle.chains.proofs.Linking.{Chaining}
use Rattle.chains.proofs.link.Given as goal

abbrev pub invariant-loop-place : goal.invariant-loop-place
invariant-loop-place l = Chaining l.names l.initial.index l.index l.place
