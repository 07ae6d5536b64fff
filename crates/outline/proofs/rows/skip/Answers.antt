-- `outline::rows::skip` meets its contract. The loop's invariant: of the run's pixels those after the first j are members, and the first j
-- decide. Assumes nothing.
use mathlib.Core.Path.{◌≡◌, sym, ◌∙◌}
use Prim.Native.Nat.{◌+◌, ◌-◌}
use native.Mathlib.Omega.{arith}
use Rattle.boundary.specs.Boundary.{member_at}
use Rattle.outline.specs.Inner.{row_line}
use Rattle.outline.proofs.Skips.{skip-on, skip-here, skip-none}
use Rattle.outline.proofs.rows.skip.Goals as goal

pub returns-then-not-at : goal.returns-then-not-at
returns-then-not-at c =
    let a = c.args in
    let q = c.loop-j in
    let t = row_line (member_at a.want a.w a.s.now a.levels.now a.labels.now) a.x0 a.n a.y a.back in
    let z : q.j - 1 + 1 ≡ q.j = omega arith in
    (z ∙ sym (q.invariant ∙ skip-here t a.k q.j (omega arith) (sym c.at.ensures ∙ c.if-not-at.true)), omega arith)

pub loop-j-preserved : goal.loop-j-preserved
loop-j-preserved c =
    let a = c.args in
    let q = c.loop-j in
    let t = row_line (member_at a.want a.w a.s.now a.levels.now a.labels.now) a.x0 a.n a.y a.back in
    q.invariant ∙ skip-on t a.k q.j (omega arith) (sym c.at.ensures ∙ c.if-not-at.false)

pub returns : goal.returns
returns c =
    let a = c.args in
    let q = c.loop-j in
    let t = row_line (member_at a.want a.w a.s.now a.levels.now a.labels.now) a.x0 a.n a.y a.back in
    (sym (q.invariant ∙ skip-none t a.k q.j (omega arith)), omega arith)
