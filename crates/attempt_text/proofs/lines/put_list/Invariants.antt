-- `attempt_text::lines::put_list` meets its contract. The loop's invariant: the lines of the first k scores are stored, with 44 bytes for
-- each at most. Assumes nothing.
use Rattle.attempt_text.specs.Traced.{score_lines}
use Rattle.laws.specs.Lent.{Stored}
use Prim.Native.Nat.{◌+◌, ◌*◌, ◌≤◌}
use Rattle.attempt_text.proofs.lines.put_list.Given as goal

abbrev pub invariant-loop-k : goal.invariant-loop-k
invariant-loop-k l = Stored l.at (score_lines l.list l.k) l.initial.out l.out l.to × (l.to ≤ l.at + 44 * l.k)
