-- By the three tests: b is taken where it is wanted, behind p and ahead of a. Assumes nothing.
use mathlib.Core.Path.{◌∙◌, sym}
use native.Mathlib.Omega.{arith}
use lib.ListN.{get_or}
use borrow.Author.Tests.{le-leb, leb-true}
use Rattle.laws.proofs.Bools.{clash}
use Rattle.regions.specs.Kept.{want}
use Rattle.regions.specs.Inner.{left, took}
use Rattle.regions.proofs.pick.better.Goals as goal

pub returns-then-sizes-b-lt16 : goal.returns-then-sizes-b-lt16
unfolding want
returns-then-sizes-b-lt16 c =
    left (λ w q. absurd
    (omega (arith, leb-true 16 (get_or c.args.sizes.now c.args.b 0) w)))

pub returns-then-not-is_behind : goal.returns-then-not-is_behind
returns-then-not-is_behind c = left (λ w q. absurd (clash q (sym c.is_behind.ensures ∙ c.if-not-is_behind.true)))

pub returns-then-not-does_beat : goal.returns-then-not-does_beat
returns-then-not-does_beat c = left (λ w q. sym c.does_beat.ensures ∙ c.if-not-does_beat.true)

pub returns : goal.returns
unfolding want
returns c =
    took (le-leb _ _ c.if-sizes-b-lt16.false)
    (sym c.is_behind.ensures ∙ c.if-not-is_behind.false)
    (sym c.does_beat.ensures ∙ c.if-not-does_beat.false)
