-- `medians::lists::copy` meets its contract.
-- Invariant: the first i places are copied. Assumes nothing.
use Rattle.std.proofs.Common.{refl, ◌∙◌, ℕ, ◌<◌, length, arith}
use lib.Ieee.{nan}
use Rattle.math.specs.Lists.{number_at}
use Rattle.laws.proofs.Steps.{filled-step, filled_none, filled_copy}
use Rattle.medians.proofs.lists.copy.Goals as goal

pub loop-i-init : goal.loop-i-init
loop-i-init c = filled_none nan (λ (x : ℕ). number_at c.args.from.now x) c.args.to.now

pub loop-i-preserved : goal.loop-i-preserved
loop-i-preserved c =
    let s = c.args in
    let h : c.loop-i.i < length c.loop-i.to = omega arith in
    filled-step nan (λ (x : ℕ). number_at s.from.now x) c.loop-i.to c.loop-i.i (number_at s.from.now c.loop-i.i) h
    c.loop-i.invariant refl

pub returns : goal.returns
returns c =
    filled_copy nan c.args.from.now c.loop-i.to c.loop-i.i (c.loop-i.auto.to ∙ c.requires) c.loop-i-test.false c.loop-i.invariant
