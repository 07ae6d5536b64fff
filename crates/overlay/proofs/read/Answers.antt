-- `overlay::read` meets its contract. Assumes nothing.
use mathlib.Core.Path.{refl}
use native.Mathlib.Omega.{arith}
use Rattle.overlay.proofs.read.Goals as goal

pub show_at-requires : goal.show_at-requires
show_at-requires c =
    record {
      file_at = c.in-Ok.ensures.pictured _ _ _ refl;
      in_bounds = omega arith;
    }
