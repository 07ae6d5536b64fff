-- `lens::bow::normal_of` meets its contract. The invariant: at most the samples passed count, and the rest of the definition, from the sums
-- so far, gives those of all. Assumes nothing.
use Rattle.std.proofs.Common.{rules}
use Rattle.lens.proofs.Bows.{normal-begin, normal-step, normal-end}
use Rattle.lens.proofs.bow.normal_of.Goals as goal

pub loop-k-init : goal.loop-k-init
loop-k-init c = (search rules, search rules, normal-begin _ _ _ _)

pub loop-k-preserved : goal.loop-k-preserved
loop-k-preserved c = (
  search rules,
  search rules,
  normal-step _ _ _ _ _ _ _ c.loop-k-test.true c.add_sample-a.ensures.0
      c.loop-k.invariant.2,
)

pub returns : goal.returns
returns c = (normal-end _ _ _ _ _ _ c.loop-k-test.false c.loop-k.invariant.2, search rules)
