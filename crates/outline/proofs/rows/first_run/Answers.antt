-- `outline::rows::first_run` meets its contract. The loop's invariant (`Clear`): no run starts before k. The measure is n - k. Assumes
-- nothing.
use mathlib.Core.Path.{sym, ◌∙◌}
use native.Mathlib.Omega.{arith}
use Rattle.boundary.specs.Boundary.{member_at}
use Rattle.outline.specs.Inner.{row_line}
use Rattle.outline.proofs.Skips.{clear-begin, clear-turn, clear-found, clear-end}
use Rattle.outline.proofs.rows.first_run.Goals as goal

pub loop-k-init : goal.loop-k-init
loop-k-init c =
    let a = c.args in (
      omega arith,
      clear-begin a.run
          (row_line (member_at a.want a.w a.s.now a.levels.now a.labels.now) a.x0 a.n a.y a.back) a.n,
    )

pub returns-then-d-eq0 : goal.returns-then-d-eq0
returns-then-d-eq0 c =
    let a = c.args in
    let q = c.loop-k in
    let t = row_line (member_at a.want a.w a.s.now a.levels.now a.labels.now) a.x0 a.n a.y a.back in
    let none = sym c.skip-d.ensures.0 ∙ c.if-d-eq0.true in
    (sym (clear-found a.run t a.n q.k q.invariant.1 c.requires.run_nonzero.0 none (omega arith)), omega arith)

pub loop-k-preserved : goal.loop-k-preserved
loop-k-preserved c =
    let a = c.args in
    let q = c.loop-k in
    let d = c.skip-d in
    let t = row_line (member_at a.want a.w a.s.now a.levels.now a.labels.now) a.x0 a.n a.y a.back in
    (omega (arith, d.ensures.1), clear-turn a.run t a.n q.k q.invariant.1 d.result d.ensures.0 (omega arith))

pub returns : goal.returns
returns c =
    let a = c.args in
    let q = c.loop-k in
    let t = row_line (member_at a.want a.w a.s.now a.levels.now a.labels.now) a.x0 a.n a.y a.back in
    (sym (clear-end a.run t a.n q.k q.invariant.1 (omega arith)), omega arith)
