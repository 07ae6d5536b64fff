-- `medians::select::largest` meets its contract.
-- Invariant: m is the largest of the first i values. Assumes nothing.
use Rattle.std.proofs.Common.{arith, ◌≡◌, ℕ, subst}
use Rattle.medians.specs.Inner.{Largest}
use Rattle.medians.proofs.Statistics.{largest-begin, largest_step}
use Rattle.medians.proofs.select.largest.Goals as goal

pub loop-i-init : goal.loop-i-init
loop-i-init c = largest-begin _

pub loop-i-preserved : goal.loop-i-preserved
loop-i-preserved c = largest_step _ _ _ _ c.requires.numbers (omega arith) c.loop-i.invariant c.larger-m.ensures

pub returns : goal.returns
returns c =
    let z : c.loop-i.i ≡ c.args.n = omega arith in
    subst (λ (n : ℕ). Largest c.args.v.now n c.loop-i.m) z c.loop-i.invariant
