-- `noise::parts::clear_rows` meets its contract. The loop's invariant: the list holds the counts of up to i pixels. Assumes nothing.
use Rattle.noise.specs.Inner.{Filled}
use Rattle.noise.proofs.parts.clear_rows.Given as goal

abbrev pub invariant-loop-i : goal.invariant-loop-i
invariant-loop-i l = Filled l.k l.i l.t
