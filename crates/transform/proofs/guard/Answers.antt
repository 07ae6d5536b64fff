-- `transform::guard` meets its contract: two tests, of either sign's bound. Assumes nothing.
use Rattle.transform.proofs.Parts.{guarded-near, guarded-low, guarded-high}
use Rattle.transform.proofs.guard.Goals as goal

pub returns-then-w-2 : goal.returns-then-w-2
returns-then-w-2 c = guarded-near _ c.if-w.true c.if-w-2.true

pub returns-else-w-2 : goal.returns-else-w-2
returns-else-w-2 c = guarded-low _ c.if-w.true c.if-w-2.false

pub returns-else-w : goal.returns-else-w
returns-else-w c = guarded-high _ c.if-w.false
