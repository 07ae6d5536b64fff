-- `lens::straight::undistort` meets its contract. The invariant: a selection in progress that keeps every point, `Selecting`. Assumes
-- nothing.
use Rattle.fit.proofs.Selects.{Selecting}
use Rattle.lens.specs.Straight.{straight_rule}
use Rattle.lens.proofs.straight.undistort.Given as goal

abbrev pub invariant-loop-k : goal.invariant-loop-k
invariant-loop-k u = Selecting (straight_rule u.l) u.s u.initial.out u.out u.k u.m
