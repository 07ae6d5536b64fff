-- `fit::middle::select` meets its contract. The invariant: a selection in progress, `Selecting`. Assumes nothing.
use Rattle.fit.specs.Line.{near_line}
use Rattle.fit.specs.Select.{passing}
use Rattle.fit.proofs.Selects.{Selecting}
use Rattle.fit.proofs.middle.select.Given as goal

abbrev pub invariant-loop-k : goal.invariant-loop-k
invariant-loop-k l = Selecting (passing (near_line l.e l.ox l.oy l.fx l.fy l.tol)) l.s l.initial.buf l.buf l.k l.m
