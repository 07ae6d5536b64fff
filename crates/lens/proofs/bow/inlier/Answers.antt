-- `lens::bow::inlier` meets its contract, with a bow before and without one. Assumes nothing.
use Rattle.lens.specs.Bow.{inlier_of}
use Rattle.lens.proofs.bow.inlier.Goals as goal

pub returns-in_default : goal.returns-in_default
unfolding inlier_of
returns-in_default c = simp c.in_default.is

pub returns : goal.returns
unfolding inlier_of
returns c = simp (c.in-Some.is, c.abs32.ensures)
