-- The first i kept groups are found and p is the last of them (Picking). Assumes nothing.
use mathlib.Core.Path.{◌∙◌}
use native.Mathlib.Omega.{arith}
use lib.ListN.{length-set}
use lib.Seq.{get_or-set_other, get_or-set_same}
use Rattle.regions.proofs.Picking.{picked-full, picked-out, picking-turn}
use Rattle.regions.proofs.pick.pick.Goals as goal

pub returns-then-a-sizes : goal.returns-then-a-sizes
returns-then-a-sizes c = picked-out c.loop-i.invariant.0 c.first_behind-a.ensures c.if-a-sizes.true (omega arith)

pub loop-i-preserved : goal.loop-i-preserved
loop-i-preserved c =
    let q = c.loop-i in
    let r = c.first_behind-a in (
      picking-turn q.invariant.0 r.ensures (omega (arith, r.ensures.most))
          (λ j h. get_or-set_other q.at q.i j r.result 0 (omega arith)) (get_or-set_same q.at q.i r.result 0 (omega arith)),
      length-set q.at q.i r.result ∙ q.invariant.1,
    )

pub returns : goal.returns
returns c = picked-full c.loop-i.invariant.0 (omega arith)
