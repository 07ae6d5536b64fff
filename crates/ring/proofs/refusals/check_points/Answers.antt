-- `ring::refusals::check_points` meets its contract: each way out is one line of the table, after the lines that passed. Assumes nothing.
use mathlib.Core.Path.{◌∙◌}
use mathlib.Core.Path.{sym}
use Rattle.ring.proofs.refusals.check_points.Goals as goal

pub returns-then-not-is_points : goal.returns-then-not-is_points
returns-then-not-is_points c = rw (sym c.is_points.ensures ∙ c.if-not-is_points.true)

pub returns-then-not-has_room : goal.returns-then-not-has_room
returns-then-not-has_room c =
    rw (
      sym c.is_points.ensures ∙ c.if-not-is_points.false,
      sym c.has_room.ensures ∙ c.if-not-has_room.true,
    )

pub returns-then-not-coordinates : goal.returns-then-not-coordinates
returns-then-not-coordinates c =
    rw (
      sym c.is_points.ensures ∙ c.if-not-is_points.false,
      sym c.has_room.ensures ∙ c.if-not-has_room.false,
      sym c.coordinates.ensures ∙ c.if-not-coordinates.true,
    )

pub returns-then-not-is_version : goal.returns-then-not-is_version
returns-then-not-is_version c =
    rw (
      sym c.is_points.ensures ∙ c.if-not-is_points.false,
      sym c.has_room.ensures ∙ c.if-not-has_room.false,
      sym c.coordinates.ensures ∙ c.if-not-coordinates.false,
      sym c.is_version.ensures ∙ c.if-not-is_version.true,
    )

pub returns : goal.returns
returns c =
    rw (
      sym c.is_points.ensures ∙ c.if-not-is_points.false,
      sym c.has_room.ensures ∙ c.if-not-has_room.false,
      sym c.coordinates.ensures ∙ c.if-not-coordinates.false,
      sym c.is_version.ensures ∙ c.if-not-is_version.false,
    )
