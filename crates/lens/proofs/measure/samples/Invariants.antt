-- `lens::measure::samples` meets its contract. The invariant: a selection in progress, `Selecting`. Assumes nothing.
use Rattle.fit.proofs.Selects.{Selecting}
use Rattle.lens.specs.Measure.{sample_rule}
use Rattle.lens.proofs.measure.samples.Given as goal

abbrev pub invariant-loop-k : goal.invariant-loop-k
invariant-loop-k l = Selecting (sample_rule l.e l.d) l.s l.initial.buf l.buf l.k l.m
