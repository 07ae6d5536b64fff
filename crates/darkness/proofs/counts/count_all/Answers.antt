-- The first i counts are written, each from four reads. Assumes nothing.
use mathlib.Core.Path.{◌∙◌, refl}
use native.Mathlib.Omega.{arith}
use lib.ListN.{length-set}
use Rattle.laws.proofs.Folds.{written_none, written_step}
use Rattle.darkness.specs.Inner.{reads_of}
use Rattle.darkness.proofs.counts.count_all.Goals as goal

pub loop-i-init : goal.loop-i-init
loop-i-init c = (refl, written_none _ _)

pub loop-i-preserved : goal.loop-i-preserved
unfolding reads_of
loop-i-preserved c =
    let at = c.loop-i in
    let a = c.args in
    let e = c.box_at.ensures in (
      simp length-set at.invariant.0,
      written_step at.i (reads_of a.table.now a.w a.boxes.now) a.counts.now at.invariant.1
          (c.count_of.ensures ∙ rw (e.0, e.1, e.2, e.3)) (omega arith),
    )
