-- `pgm::bytes::is_line_end` meets its contract. Assumes nothing.
use Rattle.pgm.specs.Form.{is_line_end}
use borrow.Author.Tests.{eq-eqb, ne_eqb}
use Rattle.pgm.proofs.bytes.is_line_end.Goals as goal

pub returns-then-b-eq13 : goal.returns-then-b-eq13
unfolding is_line_end
returns-then-b-eq13 c = rw (eq-eqb c.args.b 13 c.if-b-eq13.true)

pub returns : goal.returns
unfolding is_line_end
returns c = rw (ne_eqb c.args.b 13 c.if-b-eq13.false)
