-- `doubled::fill` meets its contract. The loop's invariant: the first k places are written. Assumes nothing.
use Rattle.doubled.proofs.Twices.{fill_end}
use Rattle.doubled.specs.Doubled.{twice_of}
use Rattle.laws.proofs.Folds.{written_none, written_step}
use lib.Ieee.{nan}
use lib.ListN.{get_or, length-set}
use native.Mathlib.Omega.{arith}
use Rattle.doubled.proofs.fill.Goals as goal

pub loop-k-init : goal.loop-k-init
loop-k-init c =
    let a = c.args in
    (mathlib.Core.Path.refl, written_none (λ i. twice_of (get_or a.p.now i nan)) a.out.now)

pub loop-k-preserved : goal.loop-k-preserved
loop-k-preserved c =
    let q = c.loop-k in (
      simp length-set q.invariant.0,
      written_step q.k (λ i. twice_of (get_or c.args.p.now i nan)) c.args.out.now q.invariant.1 c.twice.ensures (omega arith),
    )

pub returns : goal.returns
returns c =
    let q = c.loop-k in
    fill_end c.args.p.now q.k c.args.out.now q.out q.invariant.1 c.loop-k-test.false c.loop-k.auto.k-end
