-- `c_numbers::maps::apply_at` meets its contract. Assumes nothing.
use mathlib.Core.Path.{ap}
use Rattle.transform.specs.declared.Pixel.{Pixel}
use Rattle.c_numbers.proofs.Handed.{two-stored}
use Rattle.c_numbers.proofs.maps.apply_at.Goals as goal

pub returns : goal.returns
returns c =
    let e = c.apply-p.ensures in
    two-stored _ _ _ _ _ _ (ap (λ (p : Pixel). p.x) e) (ap (λ (p : Pixel). p.y) e)
