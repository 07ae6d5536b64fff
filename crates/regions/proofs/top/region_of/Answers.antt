-- The region of a label from its count and its box (region-is). Assumes nothing.
use native.Mathlib.Numerals.{add-one}
use Rattle.regions.proofs.Spans.{region-is}
use Rattle.regions.proofs.top.region_of.Goals as goal

pub returns : goal.returns
returns c =
    let a = c.args in
    region-is a.labels.now a.w a.h a.width a.height a.i (add-one a.i) c.requires.i_bound.1
    c.span_of-b.ensures.boxed c.min-x1.ensures
    c.min-y1.ensures
