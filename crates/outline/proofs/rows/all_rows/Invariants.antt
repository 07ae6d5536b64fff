-- `outline::rows::all_rows` meets its contract. The loop's invariant: the points of the first i rows are stored, and to is the place after
-- them. Assumes nothing.
use Rattle.boundary.specs.Boundary.{member_at, rows_from}
use Rattle.outline.specs.Inner.{Wrote}
use Rattle.outline.proofs.rows.all_rows.Given as goal

abbrev pub invariant-loop-i : goal.invariant-loop-i
invariant-loop-i l =
    Wrote 0 (rows_from l.run (member_at l.want l.w l.s l.levels l.labels) l.x0 l.n l.y0 l.i) l.initial.out l.out l.to
