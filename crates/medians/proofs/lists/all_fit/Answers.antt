-- `medians::lists::all_fit` meets its contract.
-- Invariant: what was seen and what is to come together say whether all are usable. Assumes nothing.
use Rattle.medians.proofs.Usable.{all-step, all_end, numbers_of}
use Rattle.medians.specs.Median.{all_usable}
use Rattle.std.proofs.Common.{refl, sym, ◌∙◌}
use Rattle.medians.proofs.lists.all_fit.Goals as goal

pub loop-x-init : goal.loop-x-init
loop-x-init c = refl

pub loop-x-preserved : goal.loop-x-preserved
loop-x-preserved c =
    let l = c.loop-x in
    all-step c.args.v.now l.x-index l.ok _ _ _ c.loop-x-test.true c.fit-ok.ensures refl l.invariant

pub returns : goal.returns
returns c =
    let l = c.loop-x in
    let v = c.args.v.now in
    let e = all_end v l.x-index l.ok (all_usable v) c.loop-x-test.false l.invariant in
    (e, λ yes. numbers_of v (sym e ∙ yes) c.type_inv.v)
