-- `c_rings::fifteen` meets its contract. Assumes nothing.
use Rattle.std.proofs.Common.{refl}
use Rattle.c_rings.proofs.fifteen.Goals as goal

pub returns : goal.returns
returns c =
    rw (
      c.f32_to_f64_with_nan.ensures,
      c.corner_of.ensures,
      c.flag.ensures,
    ) refl
