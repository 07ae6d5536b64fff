-- `lens::estimate::straight_pass` meets its contract: the quad of the hull, then a pass with it. Assumes nothing.
use Rattle.laws.proofs.Past.{past-then}
use Rattle.lens.proofs.Estimates.{straight-by}
use Rattle.lens.proofs.estimate.straight_pass.Goals as goal

pub returns : goal.returns
returns c =
    record {
      answer = straight-by _ _ _ _ _ _ c.outer_of-o.ensures.quad
          c.one_pass.ensures.answer;
      buf_past = past-then c.outer_of-o.ensures.out_past c.one_pass.ensures.buf_past;
    }
