-- `doubled::coordinates::product` meets its contract. Assumes nothing.
use mathlib.Core.Path.{refl}
use native.Mathlib.Nat.{mul-le-mul}
use native.Mathlib.Omega.{arith}
use Rattle.doubled.proofs.coordinates.product.Goals as goal

pub overflow_mul-result : goal.overflow_mul-result
overflow_mul-result c =
    let m = mul-le-mul {n₁ = c.args.a} {m₁ = c.args.b} {n₂ = 16384} {m₂ = 8192} c.requires.0 c.requires.1 in
    omega arith

pub returns : goal.returns
returns c =
    let m = mul-le-mul {n₁ = c.args.a} {m₁ = c.args.b} {n₂ = 16384} {m₂ = 8192} c.requires.0 c.requires.1 in
    (refl, omega arith)
