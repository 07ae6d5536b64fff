-- `lens::measure::side_of` meets its contract, either way of its test. Assumes nothing.
use Rattle.lens.proofs.EdgeMeasures.{side-in, side-out}
use Rattle.lens.proofs.measure.side_of.Goals as goal

pub returns-then-h : goal.returns-then-h
returns-then-h c = side-in _ _ c.if-h.true

pub returns : goal.returns
returns c = side-out _ _ c.if-h.false
