-- `math::elimination::back` meets its contract: from the last row to the first.
-- Invariant: solving the rows that are left gives the result. Assumes nothing.
use Rattle.std.proofs.Common.{◌≡◌}
use Rattle.math.specs.Elimination.{sys, back_on}
use Rattle.math.proofs.elimination.back.Given as goal

abbrev pub invariant-loop-r : goal.invariant-loop-r
invariant-loop-r l = back_on (sys l.a l.b) l.n l.r l.x ≡ back_on (sys l.a l.b) l.n l.n l.initial.x
