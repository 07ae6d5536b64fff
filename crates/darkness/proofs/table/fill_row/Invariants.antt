-- Row y is filled up to level cell c (RowTo). Assumes nothing.
use Prim.Native.Nat.{◌*◌, min}
use Rattle.darkness.specs.Darkness.{ink_bit}
use Rattle.darkness.specs.Inner.{RowTo}
use Rattle.darkness.proofs.table.fill_row.Given as goal

abbrev pub invariant-loop-c : goal.invariant-loop-c
invariant-loop-c l = RowTo (ink_bit l.w l.s l.levels) l.w l.y l.initial.table l.table (min (16 * l.c) l.w) l.sum
