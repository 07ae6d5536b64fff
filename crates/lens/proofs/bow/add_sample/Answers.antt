-- `lens::bow::add_sample` meets its contract, whether the sample counts or not; widening to f64 changes no number. Assumes nothing.
use Rattle.std.proofs.Common.{arith, rules}
use Rattle.lens.proofs.Bows.{sample_in, sample_out, row-many}
use Rattle.lens.proofs.bow.add_sample.Goals as goal

pub returns-then-inlier : goal.returns-then-inlier
returns-then-inlier c = (
  sample_in _ _ _ _ _ c.inlier.ensures _ _ _ _
      c.if-inlier.true c.f32_to_f64_with_nan.ensures
      c.f32_to_f64_with_nan-then-inlier.ensures c.f32_to_f64_with_nan-then-inlier-2.ensures c.add_row.ensures,
  let z =
      row-many _ _ _ _ _ c.add_row.ensures in omega arith,
)

pub returns : goal.returns
returns c = (sample_out _ _ _ _ _ c.inlier.ensures c.if-inlier.false, search rules)
