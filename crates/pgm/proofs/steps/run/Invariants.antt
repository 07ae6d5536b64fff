-- `pgm::steps::run` meets its contract. The loop's invariant: the steps over what is left lead from here to where those over all bytes
-- lead. Assumes nothing.
use Rattle.pgm.specs.Steps.{begun, steps_over}
use lib.ListN.{drop}
use mathlib.Core.Path.{◌≡◌}
use Rattle.pgm.proofs.steps.run.Given as goal

abbrev pub invariant-loop-i : goal.invariant-loop-i
invariant-loop-i l = steps_over l.h (drop l.i l.s) ≡ steps_over begun (drop 2 l.s)
