-- `lens::weigh::step` meets its contract: no weight, an infinite one, edges that agree, or that do not. Assumes nothing.
use Rattle.std.proofs.Common.{ap, not}
use Rattle.lens.proofs.Estimates.{step-none, step-wild, step-on, step-off}
use Rattle.lens.proofs.weigh.step.Goals as goal

pub returns-then-den : goal.returns-then-den
returns-then-den c = step-none _ _ _ _ c.weigh-den.ensures c.if-den.true

pub returns-then-not-is_finite : goal.returns-then-not-is_finite
returns-then-not-is_finite c =
    step-wild _ _ _ _ c.weigh-den.ensures c.if-den.false _
    c.is_finite.ensures (ap not c.if-not-is_finite.true)

pub returns-then-all_agree : goal.returns-then-all_agree
returns-then-all_agree c =
    step-on _ _ _ _ c.weigh-den.ensures
    c.if-den.false _ c.is_finite.ensures
    (ap not c.if-not-is_finite.false) _
    c.summed.ensures _ c.abs32.ensures _ c.all_agree.ensures c.if-all_agree.true

pub returns : goal.returns
returns c =
    step-off _ _ _ _ c.weigh-den.ensures
    c.if-den.false _ c.is_finite.ensures
    (ap not c.if-not-is_finite.false) _
    c.summed.ensures _ c.abs32.ensures _ c.all_agree.ensures c.if-all_agree.false
