-- `hull::sides::farther` meets its contract. Assumes nothing.
use mathlib.Core.Bool.{true, false}
use native.Mathlib.Omega.{arith}
use Rattle.hull.specs.Hull.{cross_at}
use Rattle.hull.specs.Inner.{keeps}
use Rattle.hull.proofs.Pairs.{kept-yes, kept-no, keeps-under, keeps-over}
use Rattle.hull.proofs.sides.farther.Goals as goal

pub returns-then-s-val : goal.returns-then-s-val
returns-then-s-val c =
    let a = c.args in let s = c.cross_at-s in (
      kept-yes (keeps a.under) (cross_at a.p.now a.a a.b) a.k.at a.i a.k.val s.result s.ensures
          (keeps-under a.under true a.k.val s.result c.if-under.true c.if-s-val.true),
      omega arith,
    )

pub returns-then-under : goal.returns-then-under
returns-then-under c =
    let a = c.args in let s = c.cross_at-s in (
      kept-no (keeps a.under) (cross_at a.p.now a.a a.b) a.k.at a.i a.k.val s.result s.ensures
          (keeps-under a.under false a.k.val s.result c.if-under.true c.if-s-val.false),
      omega arith,
    )

pub returns-then-val-s : goal.returns-then-val-s
returns-then-val-s c =
    let a = c.args in let s = c.cross_at-s in (
      kept-yes (keeps a.under) (cross_at a.p.now a.a a.b) a.k.at a.i a.k.val s.result s.ensures
          (keeps-over a.under true a.k.val s.result c.if-under.false c.if-val-s.true),
      omega arith,
    )

pub returns : goal.returns
returns c =
    let a = c.args in let s = c.cross_at-s in (
      kept-no (keeps a.under) (cross_at a.p.now a.a a.b) a.k.at a.i a.k.val s.result s.ensures
          (keeps-over a.under false a.k.val s.result c.if-under.false c.if-val-s.false),
      omega arith,
    )
