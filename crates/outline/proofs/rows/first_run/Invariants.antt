-- `outline::rows::first_run` meets its contract. The loop's invariant (`Clear`): no run starts before k. The measure is n - k. Assumes
-- nothing.
use Prim.Native.Nat.{◌-◌, ◌≤◌}
use Rattle.boundary.specs.Boundary.{member_at}
use Rattle.outline.specs.Inner.{row_line}
use Rattle.outline.proofs.Skips.{Clear}
use Rattle.outline.proofs.rows.first_run.Given as goal

abbrev pub invariant-loop-k : goal.invariant-loop-k
invariant-loop-k l = (l.k ≤ l.n) × Clear l.run (row_line (member_at l.want l.w l.s l.levels l.labels) l.x0 l.n l.y l.back) l.n l.k

abbrev pub decreases-loop-k : goal.decreases-loop-k
decreases-loop-k l = l.n - l.k
