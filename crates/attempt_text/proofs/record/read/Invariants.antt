-- `attempt_text::record::read` meets its contract. The loop's invariant: the first k numbers are stored.
-- Assumes nothing.
use Rattle.attempt_text.specs.Attempt.{floats_at}
use Rattle.laws.specs.Lent.{Stored}
use Rattle.attempt_text.proofs.record.read.Given as goal

abbrev pub invariant-loop-k : goal.invariant-loop-k
invariant-loop-k l = Stored 0 (floats_at l.s l.from l.k) l.initial.list l.list l.k
