-- `doubled::check` meets its contract. Assumes nothing.
use mathlib.Core.Path.{sym, ◌∙◌}
use Rattle.doubled.specs.Doubled.{twice_of}
use lib.ListN.{length-map}
use borrow.Author.Tests.{le-leb, lt-leb}
use Rattle.doubled.proofs.check.Goals as goal

pub returns-then-not-is_points : goal.returns-then-not-is_points
returns-then-not-is_points c = rw (length-map c.args.p.now twice_of, sym c.is_points.ensures ∙ c.if-not-is_points.true)

pub returns-then-room-p : goal.returns-then-room-p
returns-then-room-p c =
    rw (
      length-map c.args.p.now twice_of,
      sym c.is_points.ensures ∙ c.if-not-is_points.false,
      lt-leb _ _ c.if-room-p.true,
    )

pub returns-then-not-halves : goal.returns-then-not-halves
returns-then-not-halves c =
    rw (
      sym c.halves.ensures ∙ c.if-not-halves.true,
      length-map c.args.p.now twice_of,
      sym c.is_points.ensures ∙ c.if-not-is_points.false,
      le-leb _ _ c.if-room-p.false,
    )

pub returns : goal.returns
returns c =
    rw (
      sym c.halves.ensures ∙ c.if-not-halves.false,
      length-map c.args.p.now twice_of,
      sym c.is_points.ensures ∙ c.if-not-is_points.false,
      le-leb _ _ c.if-room-p.false,
    )
