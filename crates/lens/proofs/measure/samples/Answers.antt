-- `lens::measure::samples` meets its contract. The invariant: a selection in progress, `Selecting`. Assumes nothing.
use Rattle.std.proofs.Common.{ap, ◌∙◌}
use lib.Ieee.{Float}
use Rattle.fit.proofs.Selects.{selecting-begin, selecting-turn, selecting-end}
use Rattle.lens.specs.Measure.{bow_near}
use Rattle.lens.proofs.measure.samples.Goals as goal

pub loop-k-init : goal.loop-k-init
loop-k-init c = selecting-begin _ _ _

pub loop-k-preserved : goal.loop-k-preserved
loop-k-preserved c =
    selecting-turn _ _ _ _ _ _ _ _ _ _ _
    (c.bow_near.ensures
    ∙ ap (λ (t : Float). bow_near
    c.args.e t
    c.outward-o.result)
    c.along_edge-t.ensures
    ∙ ap (bow_near _ _) c.outward-o.ensures)
    c.along_edge-t.ensures
    c.outward-o.ensures
    c.loop-k-test.true
    c.requires.s_in_bounds
    c.loop-k.invariant
    c.put-m.ensures.buf

pub returns : goal.returns
returns c = selecting-end _ _ _ _ _ _ c.loop-k-test.false c.requires.s_in_bounds c.loop-k.invariant
