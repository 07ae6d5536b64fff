-- `outline::rows::skip` meets its contract. The loop's invariant: of the run's pixels those after the first j are members, and the first j
-- decide. Assumes nothing.
use mathlib.Core.Path.{◌≡◌}
use Rattle.boundary.specs.Boundary.{member_at}
use Rattle.outline.specs.Inner.{row_line, skip_of}
use Rattle.outline.proofs.rows.skip.Given as goal

abbrev pub invariant-loop-j : goal.invariant-loop-j
invariant-loop-j l =
    let t = row_line (member_at l.want l.w l.s l.levels l.labels) l.x0 l.n l.y l.back in
    skip_of l.run t l.k ≡ skip_of l.j t l.k
