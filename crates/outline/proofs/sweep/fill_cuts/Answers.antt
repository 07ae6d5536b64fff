-- `outline::sweep::fill_cuts` meets its contract. The loop's invariant: t is the threshold of the cell of pixel a, and the first i
-- thresholds are stored. Assumes nothing.
use mathlib.Core.Path.{◌≡◌, refl}
use Prim.Native.Nat.{◌+◌, ◌/◌}
use native.Mathlib.Omega.{arith}
use Rattle.outline.proofs.Sweeps.{cuts-turn}
use Rattle.outline.proofs.sweep.fill_cuts.Goals as goal

pub loop-i-preserved : goal.loop-i-preserved
loop-i-preserved c =
    let a = c.args in
    let q = c.loop-i in (
      omega arith,
      c.cut_again-t.ensures,
      cuts-turn a.want a.w a.levels.now a.labels.now a.x q.i (a.y / 8) q.cuts (a.x + q.i)
          c.cut_again-t.result q.invariant.2 (omega arith) refl c.cut_again-t.ensures,
    )

pub returns : goal.returns
returns c =
    let a = c.args in
    let q = c.loop-i in
    let z : q.i ≡ a.n = omega arith in
    rw (← z) q.invariant.2
