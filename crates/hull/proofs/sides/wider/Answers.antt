-- `hull::sides::wider` meets its contract. Assumes nothing.
use native.Mathlib.Omega.{arith}
use Rattle.hull.proofs.Pairs.{pair-yes, pair-no}
use Rattle.hull.proofs.sides.wider.Goals as goal

pub returns-then-far-d : goal.returns-then-far-d
returns-then-far-d c =
    let a = c.args in let s = c.d2_at-d in (
      pair-yes a.p.now a.best.a a.best.b a.i a.j a.best.far s.result s.ensures c.if-far-d.true,
      omega arith,
      omega arith,
    )

pub returns : goal.returns
returns c =
    let a = c.args in let s = c.d2_at-d in (
      pair-no a.p.now a.best.a a.best.b a.i a.j a.best.far s.result s.ensures c.if-far-d.false,
      omega arith,
      omega arith,
    )
