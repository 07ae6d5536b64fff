-- m is the fold of the first j cells of the window. Assumes nothing.
use mathlib.Core.Path.{◌∙◌, ◌≡◌, sym}
use native.Mathlib.Omega.{arith}
use Rattle.laws.specs.Plane.{plane}
use Rattle.levels.proofs.Pools.{column-more, column-none}
use Rattle.levels.specs.Inner.{pooled_down}
use Rattle.levels.proofs.pool.down_cell.Goals as goal

pub loop-j-init : goal.loop-j-init
loop-j-init c =
    let a = c.args in
    c.unit8-m.ensures ∙ sym (column-none a.most (plane a.w a.g.now) a.x c.near_first-y0.result)

pub loop-j-preserved : goal.loop-j-preserved
loop-j-preserved c =
    c.join8-m.ensures ∙ rw (column-more, c.loop-j.invariant)

pub returns : goal.returns
unfolding pooled_down
returns c =
    let a = c.args in
    let e : c.loop-j.j ≡ c.near_count-n.result = omega arith in
    c.loop-j.invariant ∙ rw (e, c.near_count-n.ensures, c.near_first-y0.ensures)
