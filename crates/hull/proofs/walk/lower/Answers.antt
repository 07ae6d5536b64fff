-- `hull::walk::lower` meets its contract. Assumes nothing.
use Rattle.hull.specs.Hull.{lower_at}
use Rattle.hull.proofs.walk.lower.Goals as goal

pub returns-then-before32 : goal.returns-then-before32
unfolding lower_at
returns-then-before32 c =
    rw (
      ← c.x_at-ix.ensures,
      ← c.x_at-nx.ensures,
      ← c.before32.ensures,
      c.if-before32.true,
    )

pub returns-then-before32-2 : goal.returns-then-before32-2
unfolding lower_at
returns-then-before32-2 c =
    rw (
      ← c.x_at-ix.ensures,
      ← c.x_at-nx.ensures,
      ← c.before32.ensures,
      c.if-before32.false,
      ← c.before32-2.ensures,
      c.if-before32-2.true,
    )

pub returns : goal.returns
unfolding lower_at
returns c =
    rw (
      ← c.x_at-ix.ensures,
      ← c.x_at-nx.ensures,
      ← c.before32.ensures,
      c.if-before32.false,
      ← c.before32-2.ensures,
      c.if-before32-2.false,
      ← c.y_at.ensures,
      ← c.y_at-2.ensures,
      ← c.before32-3.ensures,
    )
