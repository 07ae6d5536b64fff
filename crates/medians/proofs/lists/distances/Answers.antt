-- `medians::lists::distances` meets its contract.
-- Invariant: the first i places hold the distances. Assumes nothing.
use Rattle.std.proofs.Common.{◌∙◌, ℕ, ◌<◌, length, arith}
use lib.Ieee.{nan}
use Rattle.math.specs.Lists.{number_at}
use Rattle.medians.specs.Median.{away}
use Rattle.laws.proofs.Steps.{filled-step, filled_none}
use Rattle.medians.proofs.Usable.{filled-away}
use Rattle.medians.proofs.lists.distances.Goals as goal

pub loop-i-init : goal.loop-i-init
loop-i-init c =
    let s = c.args in
    filled_none nan (λ (x : ℕ). away s.c (number_at s.from.now x)) s.to.now

pub loop-i-preserved : goal.loop-i-preserved
loop-i-preserved c =
    let s = c.args in
    let h : c.loop-i.i < length c.loop-i.to = omega arith in
    filled-step nan (λ (x : ℕ). away s.c (number_at s.from.now x)) c.loop-i.to c.loop-i.i c.distance.result h c.loop-i.invariant
    c.distance.ensures

pub returns : goal.returns
returns c =
    filled-away c.args.from.now c.loop-i.to c.args.c c.loop-i.i (c.loop-i.auto.to ∙ c.requires) c.loop-i-test.false
    c.loop-i.invariant
