-- `fit::consensus::trials` meets its contract. The invariant: i and j are the places of trial k, and the trials that are left, from the
-- best so far, give the best of all. Assumes nothing.
use mathlib.Core.Path.{◌∙◌}
use borrow.Author.Rules.{rules}
use Rattle.fit.proofs.Trials.{trial-is, unmoved, strided, trials-step, trials-end}
use Rattle.fit.proofs.consensus.trials.Goals as goal

pub loop-k-init : goal.loop-k-init
loop-k-init c =
    (search rules, search rules, search rules, search rules, c.pick-j.ensures.0 ∙ unmoved _ 104729 _, search rules)

pub loop-k-preserved : goal.loop-k-preserved
loop-k-preserved c =
    let inv = c.loop-k.invariant in (
      c.try_pair-best.ensures.1,
      trials-step _ _ _ _ _ _ _ c.loop-k-test.true
          (trial-is _ _ _ _ _ _ _ _ inv.2 inv.4 c.try_pair-best.ensures.0) inv.1,
      strided _ _ 7919 13 _ _ _ inv.2 c.pick-first.ensures.0 c.further-i.ensures.0,
      c.further-i.ensures.1,
      strided _ _ 104729 _ _ _ _ inv.4 c.pick-second.ensures.0 c.further-j.ensures.0,
      c.further-j.ensures.1,
    )

pub returns : goal.returns
returns c = (trials-end _ _ _ _ _ _ c.loop-k-test.false c.loop-k.invariant.1, c.loop-k.invariant.0)
