-- The part of the row is the window of the definition. Assumes nothing.
use mathlib.Core.Path.{◌∙◌, ap}
use Prim.Native.Nat.{◌*◌, ◌+◌}
use native.Mathlib.Nat.{mul_comm}
use native.Mathlib.Omega.{arith}
use Rattle.laws.proofs.Planes.{row-end}
use Rattle.levels.proofs.Pools.{across-part}
use Rattle.levels.proofs.pool.across_cell.Goals as goal

pub returns : goal.returns
returns c =
    let a = c.args in
    let l = row-end a.y a.h a.w (omega arith) in
    c.join_row.ensures
    ∙ across-part a.most a.g.now a.w a.x a.y _ _ (ap (◌+◌ (a.y * a.w)) c.near_first.ensures)
    (ap (◌+◌ (a.y * a.w + c.near_first.result)) c.near_count.ensures) (omega (arith, mul_comm a.w a.h))
