-- The cells from a up to j are visited (Parts). Assumes nothing.
use mathlib.Core.List.{[], ◌∷◌}
use Rattle.labels.proofs.Loops.{Parts}
use Rattle.labels.proofs.groups.visit_row.Given as goal

abbrev pub invariant-loop-j : goal.invariant-loop-j
invariant-loop-j l = Parts (λ i. i ∷ []) l.a l.b l.v l.initial.labels l.initial.stack l.depth l.labels l.stack l.k l.j
