-- `medians::median` meets its contract: each check of the door has its case of `median_answer`; a refusal leaves the list alone.
-- Assumes nothing.
use Rattle.laws.specs.Said.{give}
use Rattle.medians.specs.Median.{median}
use Rattle.medians.specs.Median.{median_answer}
use Rattle.medians.proofs.Numbers.{refuse-9, refuse-10, pass}
use mathlib.Core.Path.{◌≡◌, refl, sym, ap, ◌∙◌}
use mathlib.Core.Bool.{true}
use Prim.Native.Nat.{◌≤◌}
use native.Mathlib.Omega.{arith}
use lib.ListN.{length}
use lib.Ieee.{Float}
use Rattle.medians.specs.Median.{all_usable}
use Rattle.medians.proofs.median.Goals as goal

pub returns-then-values-gt4096 : goal.returns-then-values-gt4096
unfolding median_answer
returns-then-values-gt4096 c = (refuse-9 c.args.values.now (give (median c.args.values.now)) c.if-values-gt4096.true, refl)

pub returns-then-not-all_fit : goal.returns-then-not-all_fit
unfolding median_answer
returns-then-not-all_fit c =
    let h : length c.args.values.now ≤ 4096 = omega arith in (
      refuse-10 c.args.values.now (give (median c.args.values.now)) h
          (sym c.all_fit.ensures.0 ∙ c.if-not-all_fit.true),
      refl,
    )

pub returns : goal.returns
unfolding median_answer
returns c =
    let h : length c.args.values.now ≤ 4096 = omega arith in
    let e : all_usable c.args.values.now ≡ true = sym c.all_fit.ensures.0 ∙ c.if-not-all_fit.false in (
      ap (λ (x : Float). give x) c.middle.ensures.v.0
          ∙ pass c.args.values.now (give (median c.args.values.now)) h e,
      c.middle.ensures.v.1,
    )
