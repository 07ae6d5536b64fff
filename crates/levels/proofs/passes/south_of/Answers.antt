-- By the row: the last has no neighbour. Assumes nothing.
use borrow.Author.Tests.{le-ltb, lt-ltb}
use Rattle.levels.specs.Level.{south}
use Rattle.levels.proofs.passes.south_of.Goals as goal

pub returns-then-y-h : goal.returns-then-y-h
unfolding south
returns-then-y-h c = simp (lt-ltb _ _ c.if-y-h.true)

pub returns : goal.returns
unfolding south
returns c = simp (le-ltb _ _ c.if-y-h.false)
