-- `doubled::refusals::check_hull` meets its contract. Assumes nothing.
use mathlib.Core.Path.{sym, ◌∙◌}
use borrow.Author.Tests.{le-leb, lt-leb}
use Rattle.picture_checks.proofs.Checked.{points-in}
use Rattle.doubled.proofs.refusals.check_hull.Goals as goal

pub returns-then-not-is_points : goal.returns-then-not-is_points
returns-then-not-is_points c = rw (sym c.is_points.ensures ∙ c.if-not-is_points.true)

pub returns-then-room-p : goal.returns-then-room-p
returns-then-room-p c =
    rw (
      sym c.is_points.ensures ∙ c.if-not-is_points.false,
      lt-leb _ _ c.if-room-p.true,
    )

pub coordinates-requires : goal.coordinates-requires
coordinates-requires c = (points-in _ (sym c.is_points.ensures ∙ c.if-not-is_points.false)).1

pub returns-then-not-coordinates : goal.returns-then-not-coordinates
returns-then-not-coordinates c =
    rw (
      sym c.is_points.ensures ∙ c.if-not-is_points.false,
      le-leb _ _ c.if-room-p.false,
      sym c.coordinates.ensures ∙ c.if-not-coordinates.true,
    )

pub returns : goal.returns
returns c =
    rw (
      sym c.is_points.ensures ∙ c.if-not-is_points.false,
      le-leb _ _ c.if-room-p.false,
      sym c.coordinates.ensures ∙ c.if-not-coordinates.false,
    )
