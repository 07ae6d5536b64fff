-- `sides_of` folds the window. Invariant: the sides of the numbers so far. Assumes nothing.
use Rattle.marks.proofs.Splits.{sides-none, sides-turn}
use Rattle.marks.proofs.split.sides_of.Goals as goal

pub loop-x-init : goal.loop-x-init
loop-x-init c = sides-none _ _

pub loop-x-preserved : goal.loop-x-preserved
loop-x-preserved c =
    let at = c.loop-x in
    sides-turn c.args.t c.args.w.now at.x-index at.s _ at.invariant c.put_side-s.ensures
