-- `lcr_ring::outlines::lcr_outline` meets its contract. Assumes nothing.
use mathlib.Core.Path.{ap, ◌∙◌}
use Rattle.laws.specs.Said.{left_of, result_of}
use Rattle.lcr_ring.proofs.outlines.lcr_outline.Goals as goal

pub returns : goal.returns
returns c =
    let a = c.args in
    let d = c.outline-a.ensures in
    record {
      answer = c.put_many.ensures.answer ∙ ap result_of d.answer;
      points = c.put_many.ensures.points ∙ ap (λ s. left_of s a.points.now) d.answer;
      out = d.out;
    }
