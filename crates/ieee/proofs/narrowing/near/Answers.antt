-- `ieee::narrowing::near` meets its contract: the pattern is that of `usual_bits`. Assumes nothing.
use Rattle.std.proofs.Common.{◌%◌, ◌<◌, ◌≤◌, ap, ◌∙◌, arith}
use lib.Ieee.{binary64, to_bits}
use lib.Ieee.Bits.{of_bits-to_bits}
use denote.Floats.{passes}
use Rattle.ieee.specs.Narrow.{narrow}
use Rattle.ieee.proofs.Narrows.{no-nan-32}
use Rattle.ieee.proofs.Usual.{usual-bits, usual-no-nan, near-is}
use Rattle.ieee.proofs.narrowing.near.Goals as goal

pub float_to_bits-x : goal.float_to_bits-x
float_to_bits-x c = usual-no-nan _ c.requires

pub usual_bits-requires : goal.usual_bits-requires
usual_bits-requires c = let u = usual-bits _ c.requires in record { le_b = u.0; b_bound = u.1 }

pub float_from_bits-result : goal.float_from_bits-result
float_from_bits-result c =
    let r = c.usual_bits.result in
    let below : r < 2139095040 = c.usual_bits.ensures.1 in
    let small : r % 2147483648 ≤ 2139095040 = omega arith in
    no-nan-32 r small

pub returns : goal.returns
returns c =
    let x = c.args.x in
    let between = usual-bits x c.requires in
    near-is (to_bits binary64 x) c.usual_bits.result between.0 between.1 c.usual_bits.ensures.0
    ∙ ap narrow (of_bits-to_bits binary64 x (passes _ c.well_formed.0.1))
