-- The cells from a up to j are visited (Parts). Assumes nothing.
use native.Mathlib.Omega.{arith}
use Rattle.labels.specs.Labelling.{after_visits}
use Rattle.labels.proofs.Loops.{parts-begin, parts-turn, parts-end, one_by_one}
use Rattle.labels.proofs.groups.visit_row.Goals as goal

pub loop-j-init : goal.loop-j-init
loop-j-init c = parts-begin c.args.a (omega (arith, c.requires)) c.requires.safe

pub loop-j-preserved : goal.loop-j-preserved
unfolding after_visits
loop-j-preserved c =
    parts-turn (omega (arith, c.requires)) c.loop-j.invariant (omega arith) c.visit-k.ensures c.visit-k.auto.labels
    c.visit-k.auto.stack

pub returns : goal.returns
returns c = parts-end (omega arith) c.loop-j.invariant (one_by_one _ _)
