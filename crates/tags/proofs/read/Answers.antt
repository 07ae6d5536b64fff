-- `tags::read` meets its contract. Assumes nothing.
use Rattle.tags.proofs.Checks.{part-taken, pixels-few}
use mathlib.Core.Path.{refl}
use native.Mathlib.Omega.{arith}
use Rattle.tags.proofs.read.Goals as goal

pub overflow_mul-end : goal.overflow_mul-end
overflow_mul-end c =
    let p = c.in-Ok.ensures.pictured _ _ _ refl in
    record { fits = omega (arith, pixels-few _ _ p.wide p.high) }

pub overflow_add-end : goal.overflow_add-end
overflow_add-end c =
    let p = c.in-Ok.ensures.pictured _ _ _ refl in
    record { fits = omega (arith, p.near, pixels-few _ _ p.wide p.high) }

pub slice_bounds-text_of-end : goal.slice_bounds-text_of-end
slice_bounds-text_of-end c =
    let p = c.in-Ok.ensures.pictured _ _ _ refl in
    omega (arith, p.within)

pub text_of-requires : goal.text_of-requires
text_of-requires c = part-taken c.read_file.new.bytes _ _ _ (c.in-Ok.ensures.pictured _ _ _ refl)
