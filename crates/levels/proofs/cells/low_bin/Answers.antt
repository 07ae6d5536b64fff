-- acc is the count of the bins below b, and no running count before exceeds cut. Assumes nothing.
use mathlib.Core.Path.{sym}
use Prim.Native.Nat.{◌+◌}
use native.Mathlib.Omega.{arith}
use borrow.Author.Count.{below_more}
use Rattle.laws.proofs.Folds.{fold-zero}
use Rattle.laws.specs.Plane.{value_at}
use Rattle.levels.proofs.Hist.{low-at, low-none, running}
use Rattle.levels.proofs.cells.low_bin.Goals as goal

pub loop-b-init : goal.loop-b-init
loop-b-init c = (omega arith, sym (fold-zero ◌+◌ 0 _), λ i l. omega arith)

pub returns-then-cut-acc-clause-answer : goal.returns-then-cut-acc-clause-answer
returns-then-cut-acc-clause-answer c =
    let f = value_at c.args.bins.now in
    let sum = running f c.loop-b.b c.loop-b.acc c.loop-b.invariant.1 in
    sym (low-at f c.args.cut c.loop-b.b (omega arith) c.loop-b.invariant.2 (omega arith))

pub loop-b-preserved : goal.loop-b-preserved
loop-b-preserved c =
    let f = value_at c.args.bins.now in
    let sum = running f c.loop-b.b c.loop-b.acc c.loop-b.invariant.1 in (
      omega (arith, c.requires c.loop-b.b (omega arith)),
      sum,
      below_more _ c.loop-b.b c.loop-b.invariant.2 (omega arith),
    )

pub returns-clause-answer : goal.returns-clause-answer
returns-clause-answer c = sym (low-none (value_at c.args.bins.now) c.args.cut (λ i l. c.loop-b.invariant.2 i (omega arith)))
