-- `calls_ring::sized`: a picture whose checks pass is a photo. Assumes nothing.
use mathlib.Core.Path.{refl}
use borrow.Author.Rules.{rules}
use Rattle.calls_ring.proofs.sized.Goals as goal

pub read-requires : goal.read-requires
read-requires c =
    let s = c.in-Ok.ensures.passed refl in
    record {
      photo = record { wide = (s.w-low, s.w-high); high = (s.h-low, s.h-high); bytes = s.count };
      in_bounds = search rules;
    }
