-- `lcr_ring::maps::lcr_with_radial` meets its contract. Assumes nothing.
use mathlib.Core.Path.{refl, ap, ◌∙◌}
use Rattle.transform.specs.declared.Transform.{Transform}
use Rattle.transform.specs.Mapping.{with_radial, eleven_of}
use Rattle.lcr_ring.proofs.maps.lcr_with_radial.Goals as goal

pub returns : goal.returns
returns c =
    let a = c.args in
    let read = c.of_eleven-m.ensures in
    let e = c.with_radial.ensures ∙ ap (λ (m : Transform). with_radial m a.cx a.cy a.kappa) read in
    record {
      answer = refl;
      t = c.eleven.ensures ∙ ap eleven_of e;
    }
