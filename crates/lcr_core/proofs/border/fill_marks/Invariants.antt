-- `lcr_core::border::fill_marks` meets its contract. The loop's invariant: the first p places of `out` hold the row's first p marks, and
-- `out` keeps its length. Assumes nothing.
use lib.ListN.{length}
use mathlib.Core.Path.{◌≡◌}
use Rattle.lcr_core.specs.Mark.{RowMarks}
use Rattle.lcr_core.proofs.border.fill_marks.Given as goal

abbrev pub invariant-loop-p : goal.invariant-loop-p
invariant-loop-p l = (length l.out ≡ length l.initial.out) × RowMarks l.ring l.start l.p l.out
