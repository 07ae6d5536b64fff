-- `tag_text::lines::put_list` meets its contract. The loop's invariant: the lines of the first k tags are stored, with 178 bytes for
-- each at most. Assumes nothing.
use Rattle.std.proofs.Common.{◌+◌, ◌*◌, ◌≤◌}
use Rattle.laws.specs.Lent.{Stored}
use Rattle.tag_text.specs.Lines.{tag_lines}
use Rattle.tag_text.proofs.lines.put_list.Given as goal

abbrev pub invariant-loop-k : goal.invariant-loop-k
invariant-loop-k l = Stored l.at (tag_lines l.list l.k) l.initial.out l.out l.to × (l.to ≤ l.at + 178 * l.k)
