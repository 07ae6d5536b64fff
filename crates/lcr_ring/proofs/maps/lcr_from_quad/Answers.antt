-- `lcr_ring::maps::lcr_from_quad` meets its contract. Assumes nothing.
use mathlib.Core.Path.{ap, ◌∙◌}
use Rattle.c_numbers.specs.Maps.{mapped_result, mapped_after}
use Rattle.lcr_ring.proofs.maps.lcr_from_quad.Goals as goal

pub returns : goal.returns
returns c =
    let a = c.args in
    let e = c.from_quad.ensures in
    record {
      answer = c.put_mapped.ensures.answer ∙ ap mapped_result e;
      t = c.put_mapped.ensures.t ∙ ap (λ s. mapped_after s a.t.now) e;
    }
