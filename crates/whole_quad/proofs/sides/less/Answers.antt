-- `whole_quad::sides::less` meets its contract. Assumes nothing.
use mathlib.Core.Path.{refl}
use Prim.Native.Nat.{◌-◌}
use native.Mathlib.Omega.{arith}
use Rattle.whole_quad.proofs.Pairs.{kept-yes, kept-no}
use Rattle.whole_quad.proofs.sides.less.Goals as goal

pub returns-then-s-val : goal.returns-then-s-val
returns-then-s-val c =
    let a = c.args in (
      kept-yes (λ _. 536870912 - a.s) a.k.at a.i (536870912 - a.k.val) (536870912 - a.s) refl (omega arith),
      omega arith,
    )

pub returns : goal.returns
returns c =
    let a = c.args in (
      kept-no (λ _. 536870912 - a.s) a.k.at a.i (536870912 - a.k.val) (536870912 - a.s) refl (omega arith),
      omega arith,
    )
