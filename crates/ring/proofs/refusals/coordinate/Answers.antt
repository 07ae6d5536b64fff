-- `ring::refusals::coordinate` meets its contract. Assumes nothing.
use Rattle.ring.specs.Checks.{coordinate_of}
use Rattle.ring.proofs.refusals.coordinate.Goals as goal

pub returns-then-is_finite : goal.returns-then-is_finite
unfolding coordinate_of
returns-then-is_finite c = simp (c.abs32.ensures, ← c.is_finite.ensures, c.if-is_finite.true)

pub returns : goal.returns
unfolding coordinate_of
returns c = simp (← c.is_finite.ensures, c.if-is_finite.false)
