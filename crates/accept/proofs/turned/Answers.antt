-- `accept::turned` meets its contract: the four corners, backwards or forwards. Assumes nothing.
use Rattle.accept.specs.Accept.{turned_of}
use Rattle.accept.proofs.turned.Goals as goal

pub returns-then-mirrored : goal.returns-then-mirrored
unfolding turned_of
returns-then-mirrored c =
    simp (
      c.if-mirrored.true,
      c.corner_at-d.ensures,
      c.corner_at-c.ensures,
      c.corner_at-b.ensures,
      c.corner_at-a.ensures,
    )

pub returns : goal.returns
unfolding turned_of
returns c =
    simp (
      c.if-mirrored.false,
      c.corner_at-d.ensures,
      c.corner_at-c.ensures,
      c.corner_at-b.ensures,
      c.corner_at-a.ensures,
    )
