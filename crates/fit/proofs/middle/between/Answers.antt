-- `fit::middle::between` meets its contract, either way of its first test. Assumes nothing.
use Rattle.fit.proofs.middle.between.Goals as goal

pub returns-then-lo-t : goal.returns-then-lo-t
returns-then-lo-t c = simp c.if-lo-t.true

pub returns-else-lo-t : goal.returns-else-lo-t
returns-else-lo-t c = simp c.if-lo-t.false
