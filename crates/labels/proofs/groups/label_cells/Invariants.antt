-- The cells before s are done and next labels are given (Cells). Assumes nothing.
use Rattle.labels.proofs.Loops.{Cells}
use Rattle.labels.proofs.groups.label_cells.Given as goal

abbrev pub invariant-loop-s : goal.invariant-loop-s
invariant-loop-s l = Cells l.w l.h l.initial.labels l.initial.stack l.next l.s l.labels l.stack
