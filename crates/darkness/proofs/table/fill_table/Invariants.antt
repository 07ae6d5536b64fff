-- The table is filled up to row y (CountedTo). Assumes nothing.
use Prim.Native.Nat.{◌*◌, ◌+◌}
use Rattle.darkness.specs.Darkness.{ink_bit}
use Rattle.darkness.specs.Inner.{CountedTo}
use Rattle.darkness.proofs.table.fill_table.Given as goal

abbrev pub invariant-loop-y : goal.invariant-loop-y
invariant-loop-y l = CountedTo (ink_bit l.w l.s l.levels) l.w ((l.y + 1) * (l.w + 1)) l.initial.table l.table
