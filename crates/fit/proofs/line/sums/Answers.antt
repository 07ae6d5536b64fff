-- `fit::line::sums` meets its contract. The invariant: the sums of what is left, added to those so far, are the sums of all. Assumes
-- nothing.
use mathlib.Core.Path.{refl, ap, ◌∙◌}
use lib.Ieee.{Float}
use borrow.Author.Rules.{rules}
use Rattle.fit.specs.Line.{point_of}
use Rattle.fit.proofs.Sums.{no_number, sums_none, sums-all, sums-step, sums-end}
use Rattle.fit.proofs.line.sums.Goals as goal

pub returns-then-n-lt1 : goal.returns-then-n-lt1
returns-then-n-lt1 c = ap (λ (z : Float). point_of z z) no_number ∙ sums_none _ c.if-n-lt1.true

pub loop-k-init : goal.loop-k-init
loop-k-init c = (search rules, refl)

pub loop-k-preserved : goal.loop-k-preserved
loop-k-preserved c = (
  c.loop-k.invariant.0,
  sums-step _ _ _ _ _ c.loop-k-test.true c.loop-k.invariant.1,
)

pub returns : goal.returns
returns c = sums-end _ _ _ _ _ c.loop-k-test.false c.loop-k.invariant.1 ∙ sums-all _ c.loop-k.invariant.0
