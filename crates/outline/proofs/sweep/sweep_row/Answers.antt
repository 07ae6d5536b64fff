-- `outline::sweep::sweep_row` meets its contract. The lent part of the picture has n places (part-long). Assumes nothing.
use mathlib.Core.Path.{sym, subst}
use Prim.Native.Nat.{ℕ, ◌+◌, ◌*◌}
use native.Mathlib.Nat.{mul-le-mul}
use native.Mathlib.Omega.{arith}
use Rattle.outline.specs.Inner.{AtMost}
use Rattle.outline.proofs.Cuts.{row_within}
use Rattle.outline.proofs.Sweeps.{part-long, part-stepped}
use Rattle.outline.proofs.sweep.sweep_row.Goals as goal

pub overflow_mul-a : goal.overflow_mul-a
overflow_mul-a c =
    let a = c.args in
    omega (arith, mul-le-mul {n₁ = a.y} {m₁ = a.w} {n₂ = 4096} {m₂ = 4096} (omega arith) (omega arith))

pub overflow_add-a : goal.overflow_add-a
overflow_add-a c =
    let a = c.args in
    omega (arith, mul-le-mul {n₁ = a.y} {m₁ = a.w} {n₂ = 4096} {m₂ = 4096} (omega arith) (omega arith))

pub overflow_add-a-2 : goal.overflow_add-a-2
overflow_add-a-2 c =
    let a = c.args in
    omega (arith, mul-le-mul {n₁ = a.y} {m₁ = a.w} {n₂ = 4096} {m₂ = 4096} (omega arith) (omega arith))

pub slice_bounds-step_row-end : goal.slice_bounds-step_row-end
slice_bounds-step_row-end c =
    let a = c.args in
    omega (arith, row_within a.x a.n a.y a.w a.h c.requires.s_len.3 c.requires.s_len.4, c.requires.s_len.0)

pub step_row-requires : goal.step_row-requires
step_row-requires c =
    let a = c.args in
    let p = c.requires in
    let l = part-long (a.y * a.w + a.x) a.n a.s.now
    (omega (arith, row_within a.x a.n a.y a.w a.h p.s_len.3 p.s_len.4, p.s_len.0)) in
    record {
      row_len_bound = (omega (arith, l, p.n_bound.0), p.n_bound.1, p.n_bound.2);
      at_most = subst (λ (m : ℕ). AtMost m 4096 a.state.now) (sym l) p.n_bound.3;
    }

pub returns : goal.returns
returns c =
    let a = c.args in
    let p = c.requires in
    let l = part-long (a.y * a.w + a.x) a.n a.s.now
    (omega (arith, row_within a.x a.n a.y a.w a.h p.s_len.3 p.s_len.4, p.s_len.0)) in
    part-stepped (a.y * a.w + a.x) a.n a.s.now l c.step_row.ensures
