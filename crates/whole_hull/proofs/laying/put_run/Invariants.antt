-- `whole_hull::laying::put_run` meets its contract. The loop's invariant: the first i vertices are stored. Assumes nothing.
use mathlib.Core.Path.{◌≡◌}
use lib.ListN.{length}
use Rattle.laws.specs.Lent.{Stored}
use Rattle.hull.specs.Points.{numbers_of}
use Rattle.whole_hull.specs.Inner.{vertex, list_up_to}
use Rattle.whole_hull.proofs.laying.put_run.Given as goal

abbrev pub invariant-loop-i : goal.invariant-loop-i
invariant-loop-i l =
    (length l.out ≡ length l.initial.out) × Stored l.at (numbers_of (list_up_to (vertex l.back l.a l.s) l.i)) l.initial.out l.out l.m
