-- `best_of` walks the counts. Invariant: the first greatest of the first k. Assumes nothing.
use native.Mathlib.Omega.{arith}
use Rattle.marks.proofs.Bests.{best_none, best-turn}
use Rattle.marks.proofs.correlate.best_of.Goals as goal

pub loop-k-init : goal.loop-k-init
loop-k-init c = (omega arith, best_none _)

pub loop-k-preserved : goal.loop-k-preserved
loop-k-preserved c =
    let at = c.loop-k in (
      c.greater_of-b.ensures.within,
      best-turn _ at.k at.b _ (omega arith) at.invariant.1 c.greater_of-b.ensures.answer,
    )
