-- `fit::middle::select` meets its contract. The invariant: a selection in progress, `Selecting`. Assumes nothing.
use mathlib.Core.Path.{refl}
use Rattle.fit.proofs.Selects.{selecting-begin, selecting-turn, selecting-end}
use Rattle.fit.proofs.middle.select.Goals as goal

pub loop-k-init : goal.loop-k-init
loop-k-init c = selecting-begin _ _ _

pub loop-k-preserved : goal.loop-k-preserved
loop-k-preserved c =
    selecting-turn _ _ _ _ _ _ _ _ _ _ _ c.near_line.ensures refl refl
    c.loop-k-test.true
    c.requires.s_in_bounds
    c.loop-k.invariant c.put-m.ensures.buf

pub returns : goal.returns
returns c = selecting-end _ _ _ _ _ _ c.loop-k-test.false c.requires.s_in_bounds c.loop-k.invariant
