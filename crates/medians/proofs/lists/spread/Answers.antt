-- `medians::lists::spread` meets its contract: two medians, the second of the distances, which can be ordered since the first is no NaN.
-- Assumes nothing.
use Rattle.medians.specs.Median.{median}
use mathlib.Core.Path.{◌≡◌, sym, ap, ◌∙◌, subst}
use mathlib.Core.Bool.{true}
use Rattle.medians.specs.Median.{Numbers, all_usable}
use Rattle.medians.proofs.Numbers.{away-numbers, spread-is}
use Rattle.medians.proofs.lists.spread.Goals as goal

pub middle-c-requires : goal.middle-c-requires
middle-c-requires c = subst Numbers (sym c.copy.ensures) c.requires.numbers

pub middle-d-requires : goal.middle-d-requires
middle-d-requires c =
    let u : all_usable c.copy.new.to ≡ true = ap all_usable c.copy.ensures ∙ c.requires.values_value in
    subst Numbers (sym c.distances.ensures) (away-numbers _ _ c.requires.values_value (c.middle-c.ensures.answer u))

pub returns : goal.returns
returns c =
    spread-is c.args.values.now c.distances.new.to c.middle-c.result c.middle-d.result
    (c.middle-c.ensures.v.0 ∙ ap median c.copy.ensures) c.middle-d.ensures.v.0 c.distances.ensures
