-- `fit::line::intersect` meets its contract, in each case of the two lines and the determinant. Assumes nothing.
use Rattle.fit.specs.Line.{cross_of}
use Rattle.fit.proofs.line.intersect.Goals as goal

pub returns-in_default : goal.returns-in_default
unfolding cross_of
returns-in_default c = simp c.in_default.is

pub returns-in_default-m : goal.returns-in_default-m
unfolding cross_of
returns-in_default-m c = simp (c.in-Along.is, c.in_default-m.is)

pub returns-then-abs32 : goal.returns-then-abs32
unfolding cross_of
returns-then-abs32 c =
    simp (
      c.in-Along.is,
      c.in-Along-m.is,
      ← c.abs32.ensures,
      c.if-abs32.true,
    )

pub returns : goal.returns
unfolding cross_of
returns c =
    simp (
      c.in-Along.is,
      c.in-Along-m.is,
      ← c.abs32.ensures,
      c.if-abs32.false,
    )
