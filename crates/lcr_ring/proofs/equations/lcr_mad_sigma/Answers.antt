-- `lcr_ring::equations::lcr_mad_sigma` meets its contract. Assumes nothing.
use mathlib.Core.Path.{ap, ◌∙◌}
use lib.Ieee.{Float}
use Rattle.laws.specs.Said.{Said, result_of, left_of}
use Rattle.lcr_ring.proofs.equations.lcr_mad_sigma.Goals as goal

pub returns : goal.returns
returns c =
    let a = c.args in
    let e = c.mad_sigma.ensures in
    record {
      answer = c.put_number.ensures.answer ∙ ap result_of e;
      sigma = c.put_number.ensures.to ∙ ap (λ (s : Said Float). left_of s a.sigma.now) e;
    }
