-- `ieee::before32` meets its contract: the tests, in their order, fix every condition of `before`. Assumes nothing.
use Rattle.std.proofs.Common.{true, false, sym, refl, ◌∙◌}
use Rattle.ieee.proofs.Helpers.{before-by, ne-nan, lt-numbers}
use Rattle.ieee.proofs.Tests.{ne-no-nan}
use Rattle.ieee.proofs.before32.Goals as goal

pub returns-then-x-y : goal.returns-then-x-y
returns-then-x-y c =
    let n = lt-numbers _ _ c.if-x-y.true in
    sym (before-by _ _ false false true _ _ _ n.0 n.1 c.if-x-y.true refl refl refl)

pub returns-then-y-x : goal.returns-then-y-x
returns-then-y-x c =
    let n = lt-numbers _ _ c.if-y-x.true in
    sym (before-by _ _ false false false true _ _ n.1 n.0 c.if-x-y.false c.if-y-x.true refl refl)

pub returns-then-x : goal.returns-then-x
returns-then-x c = sym (before-by _ _ true _ _ _ _ _ (ne-nan _ ∙ c.if-x.true) refl refl refl refl refl)

pub returns-then-y : goal.returns-then-y
returns-then-y c =
    sym (before-by _ _ false true _ _ _ _ (ne-nan _ ∙ c.if-x.false) (ne-nan _ ∙ c.if-y.true) refl refl refl refl)

pub negative-requires : goal.negative-requires
negative-requires c = ne-no-nan _ c.if-x.false

pub negative-requires-then-negative : goal.negative-requires-then-negative
negative-requires-then-negative c = ne-no-nan _ c.if-y.false

pub returns-then-negative : goal.returns-then-negative
returns-then-negative c =
    sym (before-by _ _ false false false false true _ (ne-nan _ ∙ c.if-x.false)
    (ne-nan _ ∙ c.if-y.false) c.if-x-y.false c.if-y-x.false
    (sym c.negative.ensures ∙ c.if-negative.true) (sym c.negative-then-negative.ensures))

pub returns-else-negative : goal.returns-else-negative
returns-else-negative c =
    sym (before-by _ _ false false false false false _ (ne-nan _ ∙ c.if-x.false)
    (ne-nan _ ∙ c.if-y.false) c.if-x-y.false c.if-y-x.false
    (sym c.negative.ensures ∙ c.if-negative.false) refl)
