-- By the operation. Assumes nothing.
use Rattle.levels.proofs.pool.join8.Goals as goal

pub returns-then-most : goal.returns-then-most
returns-then-most c = rw c.if-most.true c.max.ensures

pub returns-else-most : goal.returns-else-most
returns-else-most c = rw c.if-most.false c.min.ensures
