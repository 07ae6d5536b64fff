-- By the cell: no mark, or its group is filled. Assumes nothing.
use Rattle.labels.proofs.Loops.{group-skip, group-fill}
use Rattle.labels.proofs.groups.label_at.Goals as goal

pub returns-then-labels-s-clause-state : goal.returns-then-labels-s-clause-state
returns-then-labels-s-clause-state c =
    let a = c.args in
    group-skip a.w a.h a.s c.if-labels-s.true

pub returns-clause-state : goal.returns-clause-state
returns-clause-state c =
    let a = c.args in
    group-fill a.w a.h a.s c.if-labels-s.false c.flood.ensures
