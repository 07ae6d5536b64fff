-- `outline::cells::counts` meets its contract. Assumes nothing.
use borrow.Author.Tests.{eq-eqb, ne_eqb}
use Rattle.outline.proofs.cells.counts.Goals as goal

pub returns-then-label-eq0 : goal.returns-then-label-eq0
returns-then-label-eq0 c = simp (eq-eqb c.args.label 0 c.if-label-eq0.true)

pub returns-then-want-eq0 : goal.returns-then-want-eq0
returns-then-want-eq0 c =
    simp (
      ne_eqb c.args.label 0 c.if-label-eq0.false,
      eq-eqb c.args.want 0 c.if-want-eq0.true,
    )

pub returns : goal.returns
returns c =
    simp (
      ne_eqb c.args.label 0 c.if-label-eq0.false,
      ne_eqb c.args.want 0 c.if-want-eq0.false,
    )
