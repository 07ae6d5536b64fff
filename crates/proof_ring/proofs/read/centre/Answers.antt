-- `centre` adds two cells and half of one. Assumes nothing.
use Prim.Native.Nat.{◌+◌}
use native.Mathlib.Nat.{mul-le-mul}
use native.Mathlib.Omega.{arith}
use Rattle.proof_ring.proofs.read.centre.Goals as goal

pub overflow_mul-result : goal.overflow_mul-result
overflow_mul-result c =
    omega (
      arith,
      mul-le-mul {n₁ = c.args.k + 2} {m₁ = c.args.pitch} {n₂ = 4098} {m₂ = 16} (omega arith) (omega arith),
    )

pub overflow_add-result-2 : goal.overflow_add-result-2
overflow_add-result-2 c =
    omega (
      arith,
      mul-le-mul {n₁ = c.args.k + 2} {m₁ = c.args.pitch} {n₂ = 4098} {m₂ = 16} (omega arith) (omega arith),
    )
