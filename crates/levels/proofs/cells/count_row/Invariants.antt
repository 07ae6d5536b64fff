-- The first i bytes of the row are counted. Assumes nothing.
use Prim.Native.Nat.{◌+◌}
use Rattle.levels.specs.Inner.{Counted, sums}
use Rattle.levels.specs.Level.{count_list}
use Rattle.levels.proofs.cells.count_row.Given as goal

abbrev pub invariant-loop-i : goal.invariant-loop-i
invariant-loop-i l = Counted (λ b. sums l.initial.bins b + count_list l.row l.i b) l.bins
