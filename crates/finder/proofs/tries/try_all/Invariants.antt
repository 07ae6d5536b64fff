-- `finder::tries::try_all` meets its contract. Invariant: the trace is the one that stands after i tries, and the four lists are untouched
-- past the places needed. Assumes nothing.
use mathlib.Core.Path.{◌≡◌}
use Rattle.region_outline.specs.Region.{need_of}
use Rattle.finder.specs.Find.{try_of, best_trace}
use Rattle.finder.specs.Inner.{Worked}
use Rattle.finder.proofs.tries.try_all.Given as goal

abbrev pub invariant-loop-i : goal.invariant-loop-i
invariant-loop-i l =
    (l.best ≡ best_trace (try_of l.gray l.w l.h l.most) l.i)
    × Worked (need_of l.w l.h) l.initial.points l.points l.initial.straight l.straight l.initial.cand l.cand l.initial.buf l.buf
