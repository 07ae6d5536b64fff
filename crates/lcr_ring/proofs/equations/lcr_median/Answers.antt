-- `lcr_ring::equations::lcr_median` meets its contract. Assumes nothing.
use mathlib.Core.Path.{ap, ◌∙◌, subst}
use lib.Ieee.{Float}
use Rattle.laws.specs.Said.{Said, result_of, left_of}
use Rattle.medians.specs.Median.{Left}
use Rattle.lcr_ring.proofs.equations.lcr_median.Goals as goal

pub returns : goal.returns
returns c =
    let a = c.args in
    let d = c.median in
    let r = c.put_number.ensures in
    record {
      answer = r.answer ∙ ap result_of d.ensures.0;
      median = r.to ∙ ap (λ (s : Said Float). left_of s a.median.now) d.ensures.0;
      values = subst (λ (s : Said Float). Left s a.values.now d.new.values) d.ensures.0 d.ensures.1;
    }
