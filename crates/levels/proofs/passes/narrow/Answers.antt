-- The first k places are copied. Assumes nothing.
use mathlib.Core.Path.{refl}
use native.Mathlib.Omega.{arith}
use Rattle.laws.proofs.Folds.{written_none, written_step}
use Rattle.laws.specs.Plane.{value_at}
use Rattle.levels.proofs.passes.narrow.Goals as goal

pub loop-k-init : goal.loop-k-init
loop-k-init c = written_none _ _

pub loop-k-preserved : goal.loop-k-preserved
loop-k-preserved c =
    let a = c.args in
    written_step c.loop-k.k (value_at a.src.now) a.dst.now c.loop-k.invariant refl (omega arith)
