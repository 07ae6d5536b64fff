-- `outline::sweep::refill` meets its contract. Assumes nothing.
use Rattle.outline.proofs.sweep.refill.Goals as goal

pub returns-then-c-cy : goal.returns-then-c-cy
returns-then-c-cy c = rw c.if-c-cy.true c.requires.cut_row
