-- `passed` counts one luma, finite or not. Assumes nothing.
use mathlib.Core.Path.{sym, ◌∙◌}
use Rattle.marks.proofs.Windows.{passed-yes, passed-no}
use Rattle.marks.proofs.classify.passed.Goals as goal

pub returns-then-is_finite : goal.returns-then-is_finite
returns-then-is_finite c =
    let a = c.args in
    passed-yes a.lumas.now a.j a.k c.place_around.result
    c.place_around.ensures.answer
    (sym c.is_finite.ensures ∙ c.if-is_finite.true)

pub returns : goal.returns
returns c =
    let a = c.args in
    passed-no a.lumas.now a.j a.k c.place_around.result
    c.place_around.ensures.answer
    (sym c.is_finite.ensures ∙ c.if-is_finite.false)
