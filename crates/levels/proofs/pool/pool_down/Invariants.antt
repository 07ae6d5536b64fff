-- The first k cells of dst are drawn and bytes, and k is in column x and row y. Assumes nothing.
use Rattle.laws.proofs.Drawing.{Drawing}
use Rattle.laws.specs.Plane.{plane}
use Rattle.levels.specs.Inner.{Bytes, pooled_down}
use Rattle.levels.proofs.pool.pool_down.Given as goal

abbrev pub invariant-loop-k : goal.invariant-loop-k
invariant-loop-k l = (Drawing l.w l.h (pooled_down l.most l.h (plane l.w l.src)) l.initial.dst l.dst l.k l.x l.y) × Bytes l.k l.dst
