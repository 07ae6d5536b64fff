-- `lens::estimate::estimate_lens` meets its contract: one pass, then the second where the first leaves a coefficient. Assumes nothing.
use Rattle.laws.proofs.Past.{past-none, past-then}
use Rattle.lens.proofs.Estimates.{lens_none, lens-by}
use Rattle.lens.proofs.estimate.estimate_lens.Goals as goal

pub returns-in_default : goal.returns-in_default
returns-in_default c =
    let first = c.one_pass.ensures in
    record {
      answer = lens_none _ _ _ _ first.answer _ c.in_default.is c.end.ensures;
      straight_past = past-none _ _;
      buf_past = first.buf_past;
    }

pub returns : goal.returns
returns c =
    let first = c.one_pass.ensures in
    let second = c.second.ensures in
    record {
      answer = lens-by _ _ _ _ first.answer _ _ c.in-Some.is
          second.answer c.end-2.ensures;
      straight_past = second.straight_past;
      buf_past = past-then first.buf_past second.buf_past;
    }
