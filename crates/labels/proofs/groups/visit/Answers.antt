-- By the cell: passed, or pushed where each mark has a place left. Assumes nothing.
use Rattle.labels.proofs.States.{room_open, shows-pass, shows-push}
use Rattle.labels.proofs.groups.visit.Goals as goal

pub returns-then-labels-j : goal.returns-then-labels-j
returns-then-labels-j c σ s = shows-pass c.args.j s c.if-labels-j.true

pub bounds-stack-depth : goal.bounds-stack-depth
bounds-stack-depth c = room_open c.requires.safe c.args.j c.if-labels-j.false

pub returns : goal.returns
returns c σ s = shows-push c.args.j s c.if-labels-j.false (room_open c.requires.safe c.args.j c.if-labels-j.false)
