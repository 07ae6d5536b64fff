-- `lens::straight::undistort` meets its contract. The invariant: a selection in progress that keeps every point, `Selecting`. Assumes
-- nothing.
use Rattle.std.proofs.Common.{refl}
use Rattle.fit.proofs.Selects.{selecting-begin, selecting-turn, selecting-end}
use Rattle.lens.proofs.straight.undistort.Goals as goal

pub loop-k-init : goal.loop-k-init
loop-k-init c = selecting-begin _ _ _

pub loop-k-preserved : goal.loop-k-preserved
loop-k-preserved c =
    selecting-turn _ _ _ _ _ _ _ _ _ _ _ refl c.straight_x.ensures
    c.straight_y.ensures c.loop-k-test.true
    c.requires.s_in_bounds
    c.loop-k.invariant c.put-m.ensures.buf

pub returns : goal.returns
returns c = selecting-end _ _ _ _ _ _ c.loop-k-test.false c.requires.s_in_bounds c.loop-k.invariant
