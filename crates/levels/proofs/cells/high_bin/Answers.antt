-- acc is the count of the k topmost bins, and no running count before exceeds cut. Assumes nothing.
use mathlib.Core.Path.{sym}
use Prim.Native.Nat.{◌+◌, ◌-◌}
use native.Mathlib.Omega.{arith}
use borrow.Author.Count.{below_more}
use Rattle.laws.proofs.Folds.{fold-zero}
use Rattle.laws.specs.Plane.{value_at}
use Rattle.levels.proofs.Hist.{high-at, high-none, running}
use Rattle.levels.specs.Level.{from_top}
use Rattle.levels.proofs.cells.high_bin.Goals as goal

pub loop-k-init : goal.loop-k-init
loop-k-init c = (omega arith, sym (fold-zero ◌+◌ 0 _), λ i l. omega arith)

pub returns-then-cut-acc-clause-answer : goal.returns-then-cut-acc-clause-answer
returns-then-cut-acc-clause-answer c =
    let f = value_at c.args.bins.now in
    let sum = running (from_top f) c.loop-k.k c.loop-k.acc c.loop-k.invariant.1 in
    sym (high-at f c.args.cut c.loop-k.k (omega arith) c.loop-k.invariant.2 (omega arith))

pub loop-k-preserved : goal.loop-k-preserved
loop-k-preserved c =
    let f = from_top (value_at c.args.bins.now) in
    let sum = running f c.loop-k.k c.loop-k.acc c.loop-k.invariant.1 in (
      omega (arith, c.requires (31 - c.loop-k.k) (omega arith)),
      sum,
      below_more _ c.loop-k.k c.loop-k.invariant.2 (omega arith),
    )

pub returns-clause-answer : goal.returns-clause-answer
returns-clause-answer c = sym (high-none (value_at c.args.bins.now) c.args.cut (λ i l. c.loop-k.invariant.2 i (omega arith)))
