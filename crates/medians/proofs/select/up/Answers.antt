-- `medians::select::up` meets its contract.
-- Invariant: all from the start up to i are below p, and some place from i on is not. Measure: places left. Assumes nothing.
use Rattle.medians.proofs.Partition.{none_between, passed-more, stop-on}
use Rattle.math.specs.Lists.{number_at}
use borrow.Author.Rules.{rules}
use lib.Ieee.{lt}
use Prim.Native.Nat.{ℕ}
use mathlib.Core.Bool.{true}
use mathlib.Core.Path.{◌≡◌}
use Rattle.medians.proofs.select.up.Goals as goal

pub loop-i-init : goal.loop-i-init
loop-i-init c = (search rules, c.requires, none_between (λ (x : ℕ). lt (number_at c.args.v.now x) c.args.p ≡ true) _)

pub loop-i-preserved : goal.loop-i-preserved
loop-i-preserved c =
    let l = c.loop-i in
    let s = c.args in (
      search rules,
      stop-on _ _ _ l.invariant.1 c.loop-i-test.true,
      passed-more (λ (x : ℕ). lt (number_at s.v.now x) s.p ≡ true) _ _ l.invariant.2 c.loop-i-test.true,
    )

pub returns : goal.returns
returns c =
    let l = c.loop-i in record { from = l.invariant.0; within = search rules; stops = c.loop-i-test.false; passed = l.invariant.2 }
