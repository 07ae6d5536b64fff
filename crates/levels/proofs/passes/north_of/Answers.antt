-- By the row: 0 has no neighbour. Assumes nothing.
use borrow.Author.Tests.{eq-eqb, ne_eqb}
use Rattle.levels.specs.Level.{north}
use Rattle.levels.proofs.passes.north_of.Goals as goal

pub returns-then-y-eq0 : goal.returns-then-y-eq0
unfolding north
returns-then-y-eq0 c = simp (eq-eqb _ 0 c.if-y-eq0.true)

pub returns : goal.returns
unfolding north
returns c = simp (ne_eqb _ 0 c.if-y-eq0.false)
