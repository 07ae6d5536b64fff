-- `lens::bow::square_in` meets its contract, in each way of its tests. Assumes nothing.
use Rattle.lens.specs.Bow.{square_in}
use Rattle.lens.proofs.bow.square_in.Goals as goal

pub returns-then-all : goal.returns-then-all
unfolding square_in
returns-then-all c = simp c.if-all.true

pub returns-then-at_most : goal.returns-then-at_most
unfolding square_in
returns-then-at_most c = simp (← c.at_most.ensures, c.if-all.false, c.if-at_most.true)

pub returns : goal.returns
unfolding square_in
returns c = simp (← c.at_most.ensures, c.if-all.false, c.if-at_most.false)
