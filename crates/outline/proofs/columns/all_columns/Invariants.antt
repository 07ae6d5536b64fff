-- `outline::columns::all_columns` meets its contract. The loop's invariant: the points of the first i columns are stored, and to is the
-- place after them. The measure is n - i. Assumes nothing.
use Prim.Native.Nat.{◌-◌, ◌≤◌}
use Rattle.boundary.specs.Boundary.{member_at, columns_from}
use Rattle.outline.specs.Inner.{Wrote}
use Rattle.outline.proofs.columns.all_columns.Given as goal

abbrev pub invariant-loop-i : goal.invariant-loop-i
invariant-loop-i l =
    (l.i ≤ l.n) × Wrote l.at (columns_from l.run (member_at l.want l.w l.s l.levels l.labels) l.y0 l.m l.x0 l.i) l.initial.out l.out l.to

abbrev pub decreases-loop-i : goal.decreases-loop-i
decreases-loop-i l = l.n - l.i
