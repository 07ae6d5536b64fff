-- `outline::cells::cut_again` meets its contract. Assumes nothing.
use Rattle.outline.proofs.cells.cut_again.Goals as goal

pub returns-then-c-cx : goal.returns-then-c-cx
returns-then-c-cx c = rw c.if-c-cx.true c.requires.t_value
