-- `accept::corner_at` meets its contract, corner by corner. Assumes nothing.
use Rattle.accept.specs.Accept.{corner_at}
use borrow.Author.Tests.{eq-eqb, ne_eqb}
use Rattle.accept.proofs.corner_at.Goals as goal

pub returns-then-r-eq0 : goal.returns-then-r-eq0
unfolding corner_at
returns-then-r-eq0 c = simp (eq-eqb _ _ c.if-r-eq0.true)

pub returns-then-r-eq1 : goal.returns-then-r-eq1
unfolding corner_at
returns-then-r-eq1 c = simp (ne_eqb _ _ c.if-r-eq0.false, eq-eqb _ _ c.if-r-eq1.true)

pub returns-then-r-eq2 : goal.returns-then-r-eq2
unfolding corner_at
returns-then-r-eq2 c = simp (ne_eqb _ _ c.if-r-eq0.false, ne_eqb _ _ c.if-r-eq1.false, eq-eqb _ _ c.if-r-eq2.true)

pub returns : goal.returns
unfolding corner_at
returns c = simp (ne_eqb _ _ c.if-r-eq0.false, ne_eqb _ _ c.if-r-eq1.false, ne_eqb _ _ c.if-r-eq2.false)
