-- After so many turns the grid holds so many passes (Filling). Assumes nothing.
use Rattle.levels.proofs.Fill.{Filling}
use Rattle.levels.proofs.passes.fill_passes.Given as goal

abbrev pub invariant-loop : goal.invariant-loop
invariant-loop l = Filling l.w l.h l.initial.grid l.initial.work l.grid l.work l.counter
