-- `outline::sweep::step_row` meets its contract. The loop's invariant (`Stepped`): the first i columns are one step further. Assumes nothing.
use Rattle.outline.specs.Inner.{Stepped}
use Rattle.outline.proofs.sweep.step_row.Given as goal

abbrev pub invariant-loop-i : goal.invariant-loop-i
invariant-loop-i l = Stepped l.run l.row l.cuts l.initial.state l.k l.i l.state
