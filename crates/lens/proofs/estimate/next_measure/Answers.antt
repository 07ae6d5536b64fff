-- `lens::estimate::next_measure` meets its contract, whether the measure before is some or none. Assumes nothing.
use Rattle.std.proofs.Common.{◌∙◌}
use Rattle.laws.proofs.Past.{past-none}
use Rattle.lens.proofs.Estimates.{after_none, after-some}
use Rattle.lens.proofs.estimate.next_measure.Goals as goal

pub returns-in_err-before : goal.returns-in_err-before
returns-in_err-before c =
    record {
      answer = c.from_residual.ensures ∙ after_none _ _ c.in_err-before.was;
      buf_past = past-none _ _;
    }

pub returns : goal.returns
returns c =
    record {
      answer = after-some _ _ _ c.in_ok-before.was c.measure_edge.ensures.answer;
      buf_past = c.measure_edge.ensures.buf_past;
    }
