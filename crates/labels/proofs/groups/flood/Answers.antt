-- What is left on the stack is still to be looked at (Flow); the measure is the depth of the stack with the marks that are left. Assumes
-- nothing.
use native.Mathlib.Omega.{arith}
use Rattle.labels.specs.Labelling.{after_visit}
use Rattle.labels.proofs.Loops.{flow-begin, flow-safe, flow-inside, flow-less, flow-turn, flow-end}
use Rattle.labels.proofs.States.{safe-begin}
use Rattle.labels.proofs.groups.flood.Goals as goal

pub visit-k-requires-clause-safe : goal.visit-k-requires-clause-safe
visit-k-requires-clause-safe c = safe-begin _ _ c.requires.s_in_bounds.1

pub loop-k-init : goal.loop-k-init
loop-k-init c =
    flow-begin c.args.s c.requires.s_in_bounds.2 c.requires.cell_grid c.requires.s_in_bounds.1 c.visit-k.ensures c.visit-k.auto.labels c.visit-k.auto.stack

pub visit_near-k-requires-clause-safe : goal.visit_near-k-requires-clause-safe
visit_near-k-requires-clause-safe c = flow-safe c.loop-k.invariant (omega arith)

pub visit_near-k-requires-clause-i_in_bounds : goal.visit_near-k-requires-clause-i_in_bounds
visit_near-k-requires-clause-i_in_bounds c = (flow-inside c.loop-k.invariant (omega arith), c.requires.s_in_bounds.2)

pub loop-k-smaller : goal.loop-k-smaller
loop-k-smaller c = flow-less c.requires.s_in_bounds.2 c.loop-k.invariant (omega arith) c.visit_near-k.ensures

pub loop-k-preserved : goal.loop-k-preserved
loop-k-preserved c =
    flow-turn c.requires.s_in_bounds.2 c.loop-k.invariant (omega arith) c.visit_near-k.ensures c.visit_near-k.auto.stack

pub returns : goal.returns
returns c σ s = flow-end (omega arith) c.loop-k.invariant (after_visit c.args.s σ) (c.visit-k.ensures σ s)
