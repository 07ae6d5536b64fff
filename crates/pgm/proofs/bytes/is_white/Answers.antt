-- `pgm::bytes::is_white` meets its contract. Assumes nothing.
use Rattle.pgm.specs.Form.{is_white}
use borrow.Author.Tests.{eq-eqb, ne_eqb, le-leb, lt-leb}
use Rattle.pgm.proofs.bytes.is_white.Goals as goal

pub returns-then-b-eq32 : goal.returns-then-b-eq32
unfolding is_white
returns-then-b-eq32 c = rw (eq-eqb c.args.b 32 c.if-b-eq32.true)

pub returns-then-b-lt9 : goal.returns-then-b-lt9
unfolding is_white
returns-then-b-lt9 c = rw (ne_eqb c.args.b 32 c.if-b-eq32.false, lt-leb 9 c.args.b c.if-b-lt9.true)

pub returns : goal.returns
unfolding is_white
returns c = rw (ne_eqb c.args.b 32 c.if-b-eq32.false, le-leb 9 c.args.b c.if-b-lt9.false)
