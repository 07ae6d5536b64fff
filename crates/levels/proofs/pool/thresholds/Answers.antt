-- The first k places hold their thresholds. Assumes nothing.
use native.Mathlib.Omega.{arith}
use Rattle.laws.proofs.Folds.{written_none, written_step}
use Rattle.levels.specs.Inner.{pairwise}
use Rattle.levels.proofs.pool.thresholds.Goals as goal

pub loop-k-init : goal.loop-k-init
loop-k-init c = written_none _ _

pub loop-k-preserved : goal.loop-k-preserved
loop-k-preserved c =
    let a = c.args in
    written_step c.loop-k.k (pairwise a.darks.now a.lights.now) a.grid.now c.loop-k.invariant c.threshold_of.ensures (omega arith)
