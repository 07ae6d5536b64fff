-- The first k cells of dst are drawn, and k is in column x and row y (Drawing). Assumes nothing.
use Rattle.laws.proofs.Drawing.{Drawing}
use Rattle.laws.specs.Plane.{plane}
use Rattle.levels.specs.Inner.{pooled_across}
use Rattle.levels.proofs.pool.pool_across.Given as goal

abbrev pub invariant-loop-k : goal.invariant-loop-k
invariant-loop-k l = Drawing l.w l.h (pooled_across l.most l.w (plane l.w l.src)) l.initial.dst l.dst l.k l.x l.y
