-- `ieee::narrowed` meets its contract: a NaN by its test, else the pattern of `narrow_bits`. Assumes nothing.
use Rattle.std.proofs.Common.{T, sym, ap, ◌∙◌, subst}
use lib.Ieee.{binary64, div, of_bits}
use lib.Ieee.Compare.{differs_from_itself}
use lib.Ieee.Bits.{of_bits-to_bits}
use denote.Floats.{passes}
use Rattle.ieee.specs.Narrow.{narrow}
use Rattle.ieee.proofs.Tests.{ne-no-nan}
use Rattle.ieee.proofs.Narrows.{no-nan-64, no-nan-32, narrow-nan}
use Rattle.ieee.proofs.narrowed.Goals as goal

pub returns-then-x : goal.returns-then-x
unfolding div of_bits
returns-then-x c = narrow-nan _ (differs_from_itself _ (subst T (sym c.if-x.true) tt))

pub float_to_bits-x : goal.float_to_bits-x
float_to_bits-x c = ne-no-nan _ c.if-x.false

pub narrow_bits-requires : goal.narrow_bits-requires
narrow_bits-requires c = no-nan-64 _ (passes _ c.well_formed.0.1) (ne-no-nan _ c.if-x.false)

pub float_from_bits-result : goal.float_from_bits-result
float_from_bits-result c = no-nan-32 _ c.narrow_bits.ensures.0

pub returns : goal.returns
returns c = c.narrow_bits.ensures.1 ∙ ap narrow (of_bits-to_bits binary64 _ (passes _ c.well_formed.0.1))
