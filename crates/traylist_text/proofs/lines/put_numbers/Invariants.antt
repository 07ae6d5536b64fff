-- `traylist_text::lines::put_numbers` meets its contract. The loop's invariant: the numbers so far are stored, a space before
-- each. Assumes nothing.
use lib.ListN.{take}
use Rattle.laws.specs.Lent.{Stored}
use Rattle.text.specs.Text.{spaced}
use Rattle.traylist_text.proofs.lines.put_numbers.Given as goal

abbrev pub invariant-loop-n : goal.invariant-loop-n
invariant-loop-n l = Stored l.at (spaced (take l.n-index l.ns)) l.initial.out l.out l.to
