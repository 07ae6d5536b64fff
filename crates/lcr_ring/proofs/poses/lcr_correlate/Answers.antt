-- `lcr_ring::poses::lcr_correlate` meets its contract. Assumes nothing.
use mathlib.Core.Path.{ap, ◌∙◌}
use Rattle.laws.specs.Said.{result_of}
use Rattle.c_cells.specs.Poses.{score_after, corner_after, reversed_after, agreements_after}
use Rattle.lcr_ring.proofs.poses.lcr_correlate.Goals as goal

pub returns : goal.returns
returns c =
    let a = c.args in
    let d = c.correlate-answer.ensures in
    let p = c.put_best.ensures in
    record {
      answer = p.answer ∙ ap result_of d;
      score = p.score ∙ ap (λ b. score_after b a.score.now) d;
      corner = p.corner ∙ ap (λ b. corner_after b a.corner.now) d;
      reversed = p.reversed ∙ ap (λ b. reversed_after b a.reversed.now) d;
      counts = p.counts ∙ ap (λ b. agreements_after b a.counts.now) d;
    }
