-- `tag_list::sweep::sweep` meets its contract. Invariant: what is known after i tries, and the four lists are untouched past the places
-- needed. Assumes nothing.
use Rattle.region_outline.specs.Region.{need_of}
use Rattle.finder.specs.Inner.{Worked}
use Rattle.tag_list.specs.Inner.{After}
use Rattle.tag_list.proofs.sweep.sweep.Given as goal

abbrev pub invariant-loop-i : goal.invariant-loop-i
invariant-loop-i l =
    After l.gray l.w l.h l.most l.i l.s
    × Worked (need_of l.w l.h) l.initial.points l.points l.initial.straight l.straight l.initial.cand l.cand l.initial.buf l.buf
