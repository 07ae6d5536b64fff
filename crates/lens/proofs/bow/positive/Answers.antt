-- `lens::bow::positive` meets its contract, either way of its test. Assumes nothing.
use Rattle.lens.proofs.bow.positive.Goals as goal

pub returns-then-x : goal.returns-then-x
returns-then-x c = simp c.if-x.true

pub returns : goal.returns
returns c = simp c.if-x.false
