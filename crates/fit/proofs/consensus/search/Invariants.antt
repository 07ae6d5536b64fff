-- `fit::consensus::search` meets its contract. The invariant: a selection in progress, `Selecting`. Assumes nothing.
use Rattle.fit.specs.Consensus.{search_near}
use Rattle.fit.specs.Select.{passing}
use Rattle.fit.proofs.Selects.{Selecting}
use Rattle.fit.proofs.consensus.search.Given as goal

abbrev pub invariant-loop-k : goal.invariant-loop-k
invariant-loop-k l = Selecting (passing (search_near l.e)) l.s l.initial.cand l.cand l.k l.m
