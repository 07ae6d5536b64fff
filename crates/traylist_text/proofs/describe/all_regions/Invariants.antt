-- `traylist_text::describe::all_regions` meets its contract. The loop's invariant: the lines of the first i regions are stored.
-- Assumes nothing.
use Rattle.laws.specs.Lent.{Stored}
use Rattle.traylist_text.specs.Listing.{first_lines}
use Rattle.laws.specs.Plane.{plane}
use Rattle.traylist_text.proofs.describe.all_regions.Given as goal

abbrev pub invariant-loop-i : goal.invariant-loop-i
invariant-loop-i l = Stored l.at (first_lines (plane l.w l.s) l.w l.h l.i) l.initial.out l.out l.to
