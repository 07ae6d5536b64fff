-- `fit::line::along` meets its contract: either way of the test is the definition's. Assumes nothing.
use Rattle.fit.specs.Line.{along_line}
use Rattle.fit.proofs.line.along.Goals as goal

pub returns-then-len : goal.returns-then-len
unfolding along_line
returns-then-len c = simp (← c.root-len.ensures, c.if-len.true)

pub returns : goal.returns
unfolding along_line
returns c = simp (← c.root-len.ensures, c.if-len.false)
