-- `hull::walk::same_at` meets its contract. Assumes nothing.
use Rattle.hull.specs.Hull.{same_at}
use Rattle.hull.proofs.walk.same_at.Goals as goal

pub returns-then-x_at : goal.returns-then-x_at
unfolding same_at
returns-then-x_at c =
    rw (
      ← c.x_at.ensures,
      ← c.x_at-2.ensures,
      c.if-x_at.true,
      ← c.y_at.ensures,
      ← c.y_at-then-x_at.ensures,
    )

pub returns : goal.returns
unfolding same_at
returns c = rw (← c.x_at.ensures, ← c.x_at-2.ensures, c.if-x_at.false)
