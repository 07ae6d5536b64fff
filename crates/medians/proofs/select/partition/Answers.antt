-- `medians::select::partition` meets its contract.
-- Invariant: the values are the same, nothing before i is above the pivot and nothing from e on below it. Measure: e - i. Assumes nothing.
use Rattle.medians.proofs.Counts.{same_refl, same-trans}
use Prim.Native.Nat.{◌<◌, ◌-◌, ◌/◌}
use lib.ListN.{length}
use borrow.Author.Rules.{rules}
use Rattle.medians.proofs.Partition.{part-begin, part_end}
use Rattle.medians.proofs.select.partition.Goals as goal

pub loop-i-init : goal.loop-i-init
loop-i-init c = (same_refl _, part-begin _ _ (search rules))

pub loop-i-preserved : goal.loop-i-preserved
loop-i-preserved c =
    (same-trans _ _ _ c.loop-i.invariant.0 c.turn-s.ensures.same, c.turn-s.ensures.parting)

pub returns : goal.returns
returns c =
    let v = c.args.v.now in
    let h : (length v - 1) / 2 < length v = search rules in
    part_end v c.loop-i.v ((length v - 1) / 2) c.loop-i.i c.loop-i.e h c.loop-i.invariant.0 c.loop-i.auto.v c.loop-i.invariant.1
    c.loop-i-test.false
