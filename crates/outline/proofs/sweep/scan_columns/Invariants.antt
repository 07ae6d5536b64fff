-- `outline::sweep::scan_columns` meets its contract. The loop's invariant (`Swept`): the states are those after k rows, and the thresholds
-- are those of row y. Assumes nothing.
use Prim.Native.Nat.{◌<◌, ◌+◌, ◌/◌}
use Rattle.boundary.specs.Boundary.{member_at}
use Rattle.outline.specs.Inner.{Swept, CutRow}
use Rattle.outline.proofs.sweep.scan_columns.Given as goal

abbrev pub invariant-loop-k : goal.invariant-loop-k
invariant-loop-k l =
    (l.y < l.y0 + l.rows) × CutRow l.want l.w l.levels l.labels l.x l.n (l.y / 8) l.cuts
    × Swept l.run (member_at l.want l.w l.s l.levels l.labels) l.y0 l.rows l.x l.n l.back l.k l.state
