-- `outline::rows::run_extremes` meets its contract. The end of the last run is the first start of the row read backwards. Assumes nothing.
use native.Mathlib.Omega.{arith}
use Rattle.boundary.specs.Boundary.{member_at}
use Rattle.outline.proofs.Skips.{extremes-some, extremes-none}
use Rattle.outline.proofs.rows.run_extremes.Goals as goal

pub returns-then-a-n : goal.returns-then-a-n
returns-then-a-n c =
    let a = c.args in
    let m = member_at a.want a.w a.s.now a.levels.now a.labels.now in
    extremes-some a.run m a.x0 a.n a.y c.first_run-a.result c.first_run-b.result
    c.first_run-a.ensures.0 c.first_run-b.ensures.0 (omega arith)

pub returns : goal.returns
returns c =
    let a = c.args in
    let m = member_at a.want a.w a.s.now a.levels.now a.labels.now in
    extremes-none a.run m a.x0 a.n a.y c.first_run-a.result c.first_run-a.ensures.0 (omega arith)
