-- `agreement_at` walks the sequence and the map side by side. Invariant: `Counting`, the map's value at i and the agreement below i.
-- Assumes nothing.
use Rattle.marks.proofs.Walks.{Counting}
use Rattle.marks.proofs.correlate.agreement_at.Given as goal

abbrev pub invariant-loop-i : goal.invariant-loop-i
invariant-loop-i l = Counting l.marks l.r l.reversed l.n l.at l.count l.i
