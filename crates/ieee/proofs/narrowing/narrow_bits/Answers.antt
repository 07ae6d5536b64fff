-- `ieee::narrowing::narrow_bits` meets its contract: the sign and `narrow_bits` of the rest, by `pattern-is`. Assumes nothing.
use Rattle.ieee.proofs.NarrowSteps.{pattern-is}
use Rattle.ieee.proofs.narrowing.narrow_bits.Goals as goal

pub returns-then-a-lt4039728865751334912 : goal.returns-then-a-lt4039728865751334912
returns-then-a-lt4039728865751334912 c = pattern-is _ _ c.ranges.b.fits c.requires c.any_bits.ensures

pub returns : goal.returns
returns c = pattern-is _ _ c.ranges.b.fits c.requires c.normal_bits.ensures
