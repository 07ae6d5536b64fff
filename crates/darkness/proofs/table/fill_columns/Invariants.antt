-- Row y is filled up to column i of level cell c (RowTo). Assumes nothing.
use Prim.Native.Nat.{◌*◌, ◌+◌}
use Rattle.darkness.specs.Darkness.{ink_bit}
use Rattle.darkness.specs.Inner.{RowTo}
use Rattle.darkness.proofs.table.fill_columns.Given as goal

abbrev pub invariant-loop-i : goal.invariant-loop-i
invariant-loop-i l = RowTo (ink_bit l.w l.s l.levels) l.w l.y l.initial.table l.table (16 * l.c + l.i) l.n
