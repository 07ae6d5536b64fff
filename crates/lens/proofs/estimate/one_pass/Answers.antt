-- `lens::estimate::one_pass` meets its contract, with a quad and without one. Assumes nothing.
use Rattle.std.proofs.Common.{◌∙◌}
use Rattle.laws.proofs.Past.{past-none}
use Rattle.lens.proofs.Estimates.{pass-none, pass-by}
use Rattle.lens.proofs.estimate.one_pass.Goals as goal

pub returns-in_err-f : goal.returns-in_err-f
returns-in_err-f c =
    record {
      answer = c.from_residual.ensures ∙ pass-none _ _ _ _ _ c.in_err-f.was;
      buf_past = past-none _ _;
    }

pub returns : goal.returns
returns c =
    record {
      answer = pass-by _ _ _ _ _ _ _ _ c.in_ok-f.was
          c.edges-t.ensures.answer c.reach_of.ensures c.step_by.ensures;
      buf_past = c.edges-t.ensures.buf_past;
    }
