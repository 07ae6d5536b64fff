-- `doubled::refusals::check_quad` meets its contract. Assumes nothing.
use mathlib.Core.Path.{sym, ◌∙◌}
use Rattle.picture_checks.proofs.Checked.{points-in}
use Rattle.doubled.proofs.refusals.check_quad.Goals as goal

pub returns-then-not-is_points : goal.returns-then-not-is_points
returns-then-not-is_points c = rw (sym c.is_points.ensures ∙ c.if-not-is_points.true)

pub coordinates-requires : goal.coordinates-requires
coordinates-requires c = (points-in _ (sym c.is_points.ensures ∙ c.if-not-is_points.false)).1

pub returns-then-not-coordinates : goal.returns-then-not-coordinates
returns-then-not-coordinates c =
    rw (
      sym c.is_points.ensures ∙ c.if-not-is_points.false,
      sym c.coordinates.ensures ∙ c.if-not-coordinates.true,
    )

pub returns : goal.returns
returns c =
    rw (
      sym c.is_points.ensures ∙ c.if-not-is_points.false,
      sym c.coordinates.ensures ∙ c.if-not-coordinates.false,
    )
