-- `fit::corners::corners_of` meets its contract, in each case of the crossings. Assumes nothing.
use Rattle.fit.specs.Corner.{corners_of}
use Rattle.fit.proofs.corners.corners_of.Goals as goal

pub returns-in_default : goal.returns-in_default
unfolding corners_of
returns-in_default c = simp c.in_default.is

pub returns-in_default-b : goal.returns-in_default-b
unfolding corners_of
returns-in_default-b c = simp (c.in-At.is, c.in_default-b.is)

pub returns-in_default-c : goal.returns-in_default-c
unfolding corners_of
returns-in_default-c c =
    simp (
      c.in-At.is,
      c.in-At-b.is,
      c.in_default-c.is,
    )

pub returns-in_default-d : goal.returns-in_default-d
unfolding corners_of
returns-in_default-d c =
    simp (
      c.in-At.is,
      c.in-At-b.is,
      c.in-At-c.is,
      c.in_default-d.is,
    )

pub returns : goal.returns
unfolding corners_of
returns c =
    simp (
      c.in-At.is,
      c.in-At-b.is,
      c.in-At-c.is,
      c.in-At-d.is,
    )
