-- `is_light` has the three cases of `light_in`: not finite, too few, by the split. Assumes nothing.
use mathlib.Core.Path.{sym, ◌∙◌}
use native.Mathlib.Omega.{arith}
use Rattle.marks.proofs.Windows.{light-far, light-few, light-many}
use Rattle.marks.proofs.classify.is_light.Goals as goal

pub returns-then-w-lt4 : goal.returns-then-w-lt4
returns-then-w-lt4 c =
    let a = c.args in
    light-few a.w.now a.x (sym c.is_finite.ensures ∙ c.if-is_finite.true) (omega arith)

pub returns-then-is_finite : goal.returns-then-is_finite
returns-then-is_finite c =
    let a = c.args in
    light-many a.w.now a.x c.split_of.result
    (sym c.is_finite.ensures ∙ c.if-is_finite.true) (omega arith)
    c.split_of.ensures

pub returns : goal.returns
returns c = let a = c.args in light-far a.w.now a.x (sym c.is_finite.ensures ∙ c.if-is_finite.false)
