-- The counters count the first cells (Tallied). Assumes nothing.
use Rattle.regions.proofs.Tallying.{Tallied}
use Rattle.regions.proofs.tally.tally.Given as goal

abbrev pub invariant-loop-x : goal.invariant-loop-x
invariant-loop-x l = Tallied l.labels l.initial.sizes l.sizes l.x-index
