-- `medians::lists::fit` meets its contract: finite by a test, not -0 by the pattern. Assumes nothing.
use mathlib.Core.Path.{sym, ◌∙◌, subst}
use lib.Dec.{T}
use Rattle.medians.proofs.Usable.{finite_number, usable-no, usable-bits}
use Rattle.medians.proofs.lists.fit.Goals as goal

pub float_to_bits-result : goal.float_to_bits-result
float_to_bits-result c = finite_number _ (sym c.is_finite.ensures ∙ c.if-is_finite.true)

pub returns-then-is_finite : goal.returns-then-is_finite
returns-then-is_finite c = usable-bits _ (subst T (sym c.well_formed.0.1) tt) (sym c.is_finite.ensures ∙ c.if-is_finite.true)

pub returns-else-is_finite : goal.returns-else-is_finite
returns-else-is_finite c = c.if-is_finite.false ∙ usable-no _ (sym c.is_finite.ensures ∙ c.if-is_finite.false)
