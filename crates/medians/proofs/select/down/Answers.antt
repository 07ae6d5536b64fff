-- `medians::select::down` meets its contract.
-- Invariant: all from e up to the start are above p, and some place before e is not. Measure: e. Assumes nothing.
use Rattle.medians.proofs.Partition.{none_between, passed-less, floor-on}
use Rattle.math.specs.Lists.{number_at}
use borrow.Author.Rules.{rules}
use lib.Ieee.{lt}
use native.Mathlib.Omega.{arith}
use Prim.Native.Nat.{ℕ}
use mathlib.Core.Bool.{true}
use mathlib.Core.Path.{◌≡◌}
use Rattle.medians.proofs.select.down.Goals as goal

pub loop-e-init : goal.loop-e-init
loop-e-init c = (search rules, c.requires.floor, none_between (λ (x : ℕ). lt c.args.p (number_at c.args.v.now x) ≡ true) _)

pub loop-e-preserved : goal.loop-e-preserved
loop-e-preserved c =
    let l = c.loop-e in
    let s = c.args in
    let z = l.invariant.1.before in (
      search rules,
      floor-on _ _ _ l.invariant.1 c.loop-e-test.true,
      passed-less (λ (x : ℕ). lt s.p (number_at s.v.now x) ≡ true) _ _ (omega arith) l.invariant.2 c.loop-e-test.true,
    )

pub returns : goal.returns
returns c =
    let l = c.loop-e in record { upto = l.invariant.0; some = search rules; stops = c.loop-e-test.false; passed = l.invariant.2 }
