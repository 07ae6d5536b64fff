-- `search::versions::run` makes 65 steps, or fewer where the search has ended. Invariant: the steps left from here give the whole search,
-- and there is room for the next score. Assumes nothing.
use Rattle.std.proofs.Common.{◌≡◌, ◌-◌}
use Rattle.search.specs.Versions.{ScoreRoom, steps_on, search_of}
use Rattle.search.proofs.versions.run.Given as goal

abbrev pub invariant-loop-k : goal.invariant-loop-k
invariant-loop-k l = ScoreRoom l.s × (steps_on l.gray l.w l.h l.g (65 - l.k) l.k l.s ≡ search_of l.gray l.w l.h l.g)
