-- `put_side` adds the number on the side that the comparison says: one branch each. Assumes nothing.
use Rattle.marks.specs.Split.{put_side}
use Rattle.marks.proofs.split.put_side.Goals as goal

pub returns-then-x-t : goal.returns-then-x-t
unfolding put_side
returns-then-x-t c = rw c.if-x-t.true

pub returns : goal.returns
unfolding put_side
returns c = rw c.if-x-t.false
