-- `fit::middle::refit_middle` meets its contract: two passes, each of which leaves the rest of buf as it was. Assumes nothing.
use mathlib.Core.Path.{ap, ◌∙◌}
use Rattle.fit.specs.Line.{line_pass}
use Rattle.laws.proofs.Past.{past-then}
use Rattle.fit.proofs.middle.refit_middle.Goals as goal

pub returns : goal.returns
returns c =
    record {
      answer = c.pass.ensures.answer
          ∙ ap (line_pass _ _ _) c.pass-first.ensures.answer;
      buf_past = past-then c.pass-first.ensures.buf_past c.pass.ensures.buf_past;
    }
