-- `fit::edges::keep_corner` meets its contract, in each case of the crossing and the test. Assumes nothing.
use Rattle.fit.specs.Consensus.{keep_corner}
use Rattle.fit.proofs.edges.keep_corner.Goals as goal

pub returns-in_default : goal.returns-in_default
unfolding keep_corner
returns-in_default c = simp c.in_default.is

pub returns-then-d2-limit : goal.returns-then-d2-limit
unfolding keep_corner
returns-then-d2-limit c = simp (c.in-At.is, ← c.d2.ensures, c.if-d2-limit.true)

pub returns : goal.returns
unfolding keep_corner
returns c = simp (c.in-At.is, ← c.d2.ensures, c.if-d2-limit.false)
