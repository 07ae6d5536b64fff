-- `between_sides` has the three cases of `between`: one side empty, the other empty, both there. Assumes nothing.
use Rattle.marks.proofs.Splits.{between-low, between-high, between-both}
use Rattle.marks.proofs.split.between_sides.Goals as goal

pub returns-then-s : goal.returns-then-s
returns-then-s c = between-low c.args.t c.args.s c.if-s.true

pub returns-then-s-2 : goal.returns-then-s-2
returns-then-s-2 c = let a = c.args in between-high a.t a.s c.if-s.false c.if-s-2.true

pub returns : goal.returns
returns c =
    let a = c.args in
    between-both a.t a.s c.if-s.false c.if-s-2.false
