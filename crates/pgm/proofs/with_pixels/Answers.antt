-- `pgm::with_pixels` meets its contract. Assumes nothing.
use native.Mathlib.Nat.{mul-le-mul}
use Rattle.pgm.proofs.Refusals.{pixels-few, pixels-enough}
use native.Mathlib.Omega.{arith}
use Rattle.pgm.proofs.with_pixels.Goals as goal

pub overflow_mul-h : goal.overflow_mul-h
overflow_mul-h c =
    let h = c.args.h in
    omega (arith, mul-le-mul {n₁ = h.width} {m₁ = h.height} {n₂ = 4096} {m₂ = 4096} c.requires.wide c.requires.high)

pub overflow_add-h : goal.overflow_add-h
overflow_add-h c =
    let h = c.args.h in
    omega (arith, mul-le-mul {n₁ = h.width} {m₁ = h.height} {n₂ = 4096} {m₂ = 4096} c.requires.wide c.requires.high)

pub returns-then-n-h : goal.returns-then-n-h
returns-then-n-h c = pixels-few c.args.h c.args.n c.if-n-h.true

pub returns : goal.returns
returns c = pixels-enough c.args.h c.args.n c.if-n-h.false
