-- `lens::bow::bow_fit` meets its contract: too few samples, no solution, no inverse, or the bow. Assumes nothing.
use Rattle.std.proofs.Common.{◌∙◌, arith}
use Rattle.fit.proofs.Bands.{small_float}
use Rattle.lens.proofs.Bows.{bow-few, bow-none, bow-none-2, bow-some, bow-at}
use Rattle.lens.proofs.bow.bow_fit.Goals as goal

pub returns-then-a-lt8 : goal.returns-then-a-lt8
returns-then-a-lt8 c = bow-few _ _ _ c.normal_of-a.ensures.0 c.if-a-lt8.true

pub returns-in_err-x : goal.returns-in_err-x
returns-in_err-x c =
    c.from_residual.ensures
    ∙ bow-none _ _ _ c.normal_of-a.ensures.0 c.if-a-lt8.false _ c.solve3.ensures c.in_err-x.was

pub returns-in_err-inverse : goal.returns-in_err-inverse
returns-in_err-inverse c =
    c.from_residual-in_err-inverse.ensures
    ∙ bow-none-2 _ _ _ c.normal_of-a.ensures.0
    c.if-a-lt8.false _
    c.solve3.ensures c.in_ok-x.was _
    c.solve3-2.ensures c.in_err-inverse.was

pub int_to_float-n : goal.int_to_float-n
int_to_float-n c = let z = c.normal_of-a.ensures.1 in small_float _ (omega arith)

pub returns : goal.returns
returns c =
    bow-some _ _ _ c.normal_of-a.ensures.0
    c.if-a-lt8.false _
    c.solve3.ensures
    c.in_ok-x.was _ c.solve3-2.ensures c.in_ok-inverse.was _
    (bow-at _ _ _ _ _ _ _ _ _ _ _ _ _ _ _ c.narrowed-f0.ensures
    c.narrowed-f1.ensures
    c.narrowed-f2.ensures
    c.is_none.ensures c.rss-sum.ensures
    c.positive.ensures c.narrowed.ensures c.root.ensures)
