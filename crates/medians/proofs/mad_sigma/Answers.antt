-- `medians::mad_sigma` meets its contract: each check of the door has its case of `mad_sigma_answer`; room for 64 values or for 4,096.
-- Assumes nothing.
use Rattle.laws.specs.Said.{give}
use mathlib.Core.Path.{◌≡◌, sym, ap, ◌∙◌}
use mathlib.Core.Bool.{true}
use Prim.Native.Nat.{◌≤◌}
use native.Mathlib.Omega.{arith}
use lib.ListN.{length}
use lib.Ieee.{Float}
use Rattle.medians.specs.Median.{all_usable}
use Rattle.medians.specs.Median.{mad_sigma}
use Rattle.medians.specs.Median.{mad_sigma_answer}
use Rattle.medians.proofs.Numbers.{refuse-9, refuse-10, pass, work-length}
use Rattle.medians.proofs.mad_sigma.Goals as goal

pub returns-then-n-gt4096 : goal.returns-then-n-gt4096
unfolding mad_sigma_answer
returns-then-n-gt4096 c = refuse-9 c.args.values.now (give (mad_sigma c.args.values.now)) c.if-n-gt4096.true

pub returns-then-not-all_fit : goal.returns-then-not-all_fit
unfolding mad_sigma_answer
returns-then-not-all_fit c =
    let h : length c.args.values.now ≤ 4096 = omega arith in
    refuse-10 c.args.values.now (give (mad_sigma c.args.values.now)) h
    (sym c.all_fit.ensures.0 ∙ c.if-not-all_fit.true)

pub slice_bounds-spread-end : goal.slice_bounds-spread-end
slice_bounds-spread-end c =
    let h : length c.args.values.now ≤ 64 = omega arith in
    sym (work-length 64 (length c.args.values.now) h)

pub spread-requires : goal.spread-requires
spread-requires c =
    let h : length c.args.values.now ≤ 64 = omega arith in
    let e = c.if-not-all_fit.false in
    record {
      work_len = work-length 64 (length c.args.values.now) h;
      values_value = sym c.all_fit.ensures.0 ∙ e;
      numbers = c.all_fit.ensures.1 e;
    }

pub returns-then-n-le64 : goal.returns-then-n-le64
unfolding mad_sigma_answer
returns-then-n-le64 c =
    let h : length c.args.values.now ≤ 4096 = omega arith in
    let e : all_usable c.args.values.now ≡ true = sym c.all_fit.ensures.0 ∙ c.if-not-all_fit.false in
    ap (λ (x : Float). give x) c.spread.ensures ∙ pass c.args.values.now (give (mad_sigma c.args.values.now)) h e

pub slice_bounds-spread-end-2 : goal.slice_bounds-spread-end-2
slice_bounds-spread-end-2 c =
    let h : length c.args.values.now ≤ 4096 = omega arith in
    sym (work-length 4096 (length c.args.values.now) h)

pub spread-requires-2 : goal.spread-requires-2
spread-requires-2 c =
    let h : length c.args.values.now ≤ 4096 = omega arith in
    let e = c.if-not-all_fit.false in
    record {
      work_len = work-length 4096 (length c.args.values.now) h;
      values_value = sym c.all_fit.ensures.0 ∙ e;
      numbers = c.all_fit.ensures.1 e;
    }

pub returns : goal.returns
unfolding mad_sigma_answer
returns c =
    let h : length c.args.values.now ≤ 4096 = omega arith in
    let e : all_usable c.args.values.now ≡ true = sym c.all_fit.ensures.0 ∙ c.if-not-all_fit.false in
    ap (λ (x : Float). give x) c.spread-2.ensures ∙ pass c.args.values.now (give (mad_sigma c.args.values.now)) h e
