-- `lcr_ring::outlines::lcr_quad` meets its contract. Assumes nothing.
use mathlib.Core.Path.{refl, ◌∙◌}
use Rattle.hull.specs.Quad.{values_of}
use Rattle.lcr_ring.proofs.Leaves.{quad-found, quad-none}
use Rattle.lcr_ring.proofs.outlines.lcr_quad.Goals as goal

pub returns-in-Some : goal.returns-in-Some
unfolding values_of
returns-in-Some c =
    let e = quad-found _ _ _ c.quad.ensures c.in-Some.is in
    record {
      answer = rw e;
      quad = c.numbers.ensures ∙ rw e;
    }

pub returns-in-None : goal.returns-in-None
returns-in-None c = rw (quad-none _ _ c.quad.ensures c.in-None.is) (record { answer = refl; quad = refl })
