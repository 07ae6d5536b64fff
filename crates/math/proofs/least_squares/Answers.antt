-- `math::least_squares` meets its contract: each check of the door has its case of `fit_answer`. Assumes nothing.
use Rattle.math.proofs.Doors.{zeros-length, take-zeros, fit_low, fit-high, fit-lengths, fit-few, fit-pass, square8, zeros-cells, not-whole, not-many, whole-samples}
use lib.ListN.{length}
use native.Mathlib.Omega.{arith}
use Prim.Native.Nat.{◌≤◌, ◌*◌}
use Rattle.math.proofs.least_squares.Goals as goal

pub returns-then-n-lt1 : goal.returns-then-n-lt1
returns-then-n-lt1 c =
    let s = c.args in fit_low s.n s.basis.now s.targets.now c.if-n-lt1.true

pub returns-then-n-gt8 : goal.returns-then-n-gt8
returns-then-n-gt8 c =
    let s = c.args in
    fit-high s.n s.basis.now s.targets.now c.if-n-gt8.true

pub returns-then-basis-n-ne0 : goal.returns-then-basis-n-ne0
returns-then-basis-n-ne0 c =
    let s = c.args in
    let l : 1 ≤ s.n = omega arith in
    let h : s.n ≤ 8 = omega arith in
    let no = not-whole (length s.basis.now) s.n (length s.targets.now) c.if-basis-n-ne0.true in
    fit-lengths s.n s.basis.now s.targets.now l h no

pub returns-then-basis-n : goal.returns-then-basis-n
returns-then-basis-n c =
    let s = c.args in
    let l : 1 ≤ s.n = omega arith in
    let h : s.n ≤ 8 = omega arith in
    let no = not-many (length s.basis.now) s.n (length s.targets.now) l c.if-basis-n.true in
    fit-lengths s.n s.basis.now s.targets.now l h no

pub returns-then-targets-n : goal.returns-then-targets-n
returns-then-targets-n c =
    let s = c.args in
    let l : 1 ≤ s.n = omega arith in
    let h : s.n ≤ 8 = omega arith in
    let e = whole-samples (length s.basis.now) s.n (length s.targets.now) l c.if-basis-n-ne0.false
    c.if-basis-n.false in
    fit-few s.n s.basis.now s.targets.now l h e c.if-targets-n.true

pub overflow_mul-cells : goal.overflow_mul-cells
overflow_mul-cells c =
    let n = c.args.n in
    let h : n ≤ 8 = omega arith in
    let z = square8 n h in
    omega arith

pub slice_bounds-m-end : goal.slice_bounds-m-end
slice_bounds-m-end c =
    let n = c.args.n in
    let h : n ≤ 8 = omega arith in
    square8 n h

pub slice_bounds-fit-end : goal.slice_bounds-fit-end
slice_bounds-fit-end c =
    let n = c.args.n in
    let h : n ≤ 8 = omega arith in
    zeros-cells n h

pub slice_bounds-fit-end-2 : goal.slice_bounds-fit-end-2
slice_bounds-fit-end-2 c =
    let n = c.args.n in
    let h : n ≤ 8 = omega arith in
    zeros-length n 8 h

pub fit-requires : goal.fit-requires
fit-requires c =
    let s = c.args in
    let l : 1 ≤ s.n = omega arith in
    let h : s.n ≤ 8 = omega arith in
    let whole = whole-samples (length s.basis.now) s.n (length s.targets.now) l c.if-basis-n-ne0.false
    c.if-basis-n.false in
    record {
      n_bound = h;
      m_value = take-zeros (s.n * s.n) 64 (square8 s.n h);
      v_value = take-zeros s.n 8 h;
      basis_len = whole;
    }

pub returns : goal.returns
returns c =
    let s = c.args in
    let l : 1 ≤ s.n = omega arith in
    let h : s.n ≤ 8 = omega arith in
    let whole = whole-samples (length s.basis.now) s.n (length s.targets.now) l c.if-basis-n-ne0.false
    c.if-basis-n.false in
    fit-pass s.n s.basis.now s.targets.now c.fit.result l h whole c.if-targets-n.false c.fit.ensures
