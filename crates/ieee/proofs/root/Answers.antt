-- `ieee::root` meets its contract: a positive, finite pattern by `root_bits`; the infinity and a zero are their own roots; else a NaN.
-- Assumes nothing.
use Rattle.std.proofs.Common.{ap, ◌∙◌}
use lib.Ieee.{binary32, of_bits, div}
use lib.Ieee.Bits.{of_bits-to_bits}
use denote.Floats.{passes}
use Rattle.ieee.specs.Root.{sqrt}
use Rattle.ieee.proofs.Tests.{lt-no-nan-r, no-nan-pattern, inf-of-bits, pos-bits, sqrt-inf, sqrt-zero, sqrt-else}
use Rattle.ieee.proofs.root.Goals as goal

pub float_to_bits-b : goal.float_to_bits-b
float_to_bits-b c = lt-no-nan-r _ _ c.if-x.true

pub root_bits-requires : goal.root_bits-requires
root_bits-requires c =
    record {
      b_nonzero = pos-bits _ (passes _ c.well_formed.0.1) c.if-x.true;
      b_bound = c.if-b-lt2139095040.true;
    }

pub float_from_bits-result : goal.float_from_bits-result
float_from_bits-result c = no-nan-pattern _ c.root_bits.ensures.0

pub returns-then-b-lt2139095040 : goal.returns-then-b-lt2139095040
returns-then-b-lt2139095040 c =
    c.root_bits.ensures.1 ∙ ap (sqrt binary32) (of_bits-to_bits binary32 _ (passes _ c.well_formed.0.1))

pub returns-then-x : goal.returns-then-x
returns-then-x c = sqrt-inf _ (inf-of-bits _ (passes _ c.well_formed.0.1) c.if-x.true c.if-b-lt2139095040.false)

pub returns-then-x-2 : goal.returns-then-x-2
returns-then-x-2 c = sqrt-zero _ c.if-x-2.true

pub returns-else-x-2 : goal.returns-else-x-2
unfolding div of_bits
returns-else-x-2 c = sqrt-else _ c.if-x.false c.if-x-2.false
