-- `lcr_ring::maps::lcr_apply` meets its contract. Assumes nothing.
use mathlib.Core.Path.{refl, ap, ◌∙◌}
use Rattle.transform.specs.declared.Pixel.{Pixel}
use Rattle.transform.specs.declared.Transform.{Transform}
use Rattle.transform.specs.Mapping.{applied}
use Rattle.lcr_ring.proofs.maps.lcr_apply.Goals as goal

pub returns : goal.returns
returns c =
    let a = c.args in
    let e = c.apply-p.ensures ∙ ap (λ (m : Transform). applied m a.u a.v) c.of_eleven-m.ensures in
    record {
      answer = refl;
      x = ap (λ (p : Pixel). p.x) e;
      y = ap (λ (p : Pixel). p.y) e;
    }
