-- `hull::walk::better` meets its contract. Assumes nothing.
use Rattle.hull.specs.Hull.{better_at}
use Rattle.hull.proofs.walk.better.Goals as goal

pub returns-then-turn : goal.returns-then-turn
unfolding better_at
returns-then-turn c = rw (← c.cross_at-turn.ensures, c.if-turn.true)

pub returns-then-turn-2 : goal.returns-then-turn-2
unfolding better_at
returns-then-turn-2 c =
    rw (
      ← c.cross_at-turn.ensures,
      c.if-turn.false,
      c.if-turn-2.true,
      ← c.d2_at.ensures,
      ← c.d2_at-then-turn-2.ensures,
    )

pub returns : goal.returns
unfolding better_at
returns c = rw (← c.cross_at-turn.ensures, c.if-turn.false, c.if-turn-2.false)
