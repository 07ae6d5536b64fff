-- `pgm::steps::step` meets its contract. Assumes nothing.
use Rattle.pgm.specs.Steps.{stepped}
use borrow.Author.Tests.{le-leb, lt-leb}
use mathlib.Core.Path.{◌∙◌, sym}
use Rattle.pgm.proofs.steps.step.Goals as goal

pub returns-then-ended : goal.returns-then-ended
unfolding stepped
returns-then-ended c = let e = sym c.ended.ensures ∙ c.if-ended.true in rw e

pub returns-then-h-ge4096 : goal.returns-then-h-ge4096
unfolding stepped
returns-then-h-ge4096 c =
    let e = sym c.ended.ensures ∙ c.if-ended.false in
    rw (e, le-leb _ c.args.h.at c.if-h-ge4096.true) c.cut_short.ensures

pub returns : goal.returns
unfolding stepped
returns c =
    let e = sym c.ended.ensures ∙ c.if-ended.false in
    rw (e, lt-leb _ c.args.h.at c.if-h-ge4096.false) c.more.ensures
